use Rattle.std.proofs.Common.{◌≡◌, ◌*◌, ◌/◌, ◌%◌, ◌^◌, length, max, sym, subst₂, ap, ap₂, ◌∙◌}
use Rattle.ark_sum_check.specs.Cube.{longest}
use Rattle.ark_sum_check.specs.Provers.{sum_of}
use Rattle.ark_word_sums.specs.Sums.{AreOfTables, sum_by, table_count}
use Rattle.ark_word_sums.proofs.AddendWords.{one_reading}
use Rattle.ark_word_sums.proofs.ReadSums.{degree_read}
use Rattle.ark_word_sums.proofs.Spelling.{width_is}
use Rattle.ark_word_sums.proofs.WordTables.{corners, words_of_tables}
use Rattle.ark_word_sums.proofs.sums.prover_of.Goals as goal

pub read_prover-requires-clause-whole : goal.read_prover-requires-clause-whole
read_prover-requires-clause-whole g c =
    let f = g.F.WordElement.spelled in
    let m = c.args.num_vars in
    let words = c.args.tables.now in
    let width : f.width ≡ g.F.WordElement.WIDTH = width_is f g.F.WordElement.WIDTH _ g.met.F.WordElement.spelled_law in
    words_of_tables f m words c.requires.whole
    ∙ ap₂ (λ w n. length words / w / n * (2 ^ m * f.width)) (width ∙ sym c.WIDTH.ensures) (sym (corners m c.requires.few))
    ∙ ap (λ w. length words / c.WIDTH.result / (1 * 2 ^ m % 2 ^ 64) * (2 ^ m * w)) width

pub returns-clause-degree : goal.returns-clause-degree
returns-clause-degree g c =
    let f = g.F.WordElement.spelled in
    let number = g.F.PrimeNumbers.numbering.number in
    let read = rw c.in-Ok-Some.field-0-is at c.in-Ok-Some.ensures.sum in
    let judged = c.are_addends.ensures.0 c.if-not-are_addends.false in
    ap (max 1)
    (degree_read number (sum_of g.F.Field.field c.in-Ok-Some.prover) (sum_by f c.args.num_vars c.args.tables.now read.0) read.3
    ∙ ap longest (one_reading f read.0 judged.0 c.args.addends.now read.1 judged.1))
    ∙ judged.2.1

pub returns-clause-sum : goal.returns-clause-sum
returns-clause-sum g c ps spelled =
    let f = g.F.WordElement.spelled in
    let read = rw c.in-Ok-Some.field-0-is at c.in-Ok-Some.ensures.sum in
    read.3 ∙ ap (sum_by f c.args.num_vars c.args.tables.now) (one_reading f read.0 ps c.args.addends.now read.1 spelled)

pub returns-clause-taken : goal.returns-clause-taken
returns-clause-taken g c =
    let f = g.F.WordElement.spelled in
    let m = c.args.num_vars in
    let words = c.args.tables.now in
    let width : f.width ≡ g.F.WordElement.WIDTH = width_is f g.F.WordElement.WIDTH _ g.met.F.WordElement.spelled_law in
    let read = rw c.in-Ok-Some.field-0-is at c.in-Ok-Some.ensures.sum in
    let judged = c.are_addends.ensures.0 c.if-not-are_addends.false in
    let count : length words / c.WIDTH.result / (1 * 2 ^ m % 2 ^ 64) ≡ table_count f m words =
    ap₂ (λ w n. length words / w / n) (c.WIDTH.ensures ∙ sym width) (corners m c.requires.few) in (
      c.in-Ok-Some.ensures.reduced,
      read.0,
      record {
        spelled = read.1;
        fits = subst₂ (λ n ps. AreOfTables n c.args.degree ps) count (sym (one_reading f read.0 judged.0 c.args.addends.now read.1 judged.1)) judged.2;
      },
      read.2,
    )
