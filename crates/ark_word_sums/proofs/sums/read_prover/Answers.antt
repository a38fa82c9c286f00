use Rattle.std.proofs.Common.{◌≡◌, ◌^◌, ◌<◌, map, sym, subst, ap, ◌∙◌}
use Rattle.std.proofs.lemmas.Nat.{pow_pos}
use Rattle.std.proofs.lemmas.Option.{IfSome_then}
use Rattle.ark_sum_check.specs.Provers.{sum_of}
use Rattle.ark_words.specs.Numbers.{numbers}
use Rattle.ark_word_sums.specs.Read.{numbered}
use Rattle.ark_word_sums.proofs.ReadSums.{spelled_some, spelled_tables, spelled_whole, sum_read}
use Rattle.ark_word_sums.proofs.Spelling.{modulus_is, width_is}
use Rattle.ark_word_sums.proofs.WordTables.{length-tables, tables_below}
use Rattle.ark_word_sums.proofs.sums.read_prover.Goals as goal

pub returns-clause-sum : goal.returns-clause-sum
returns-clause-sum g c =
    let K = g.F.Field.field in
    let f = g.F.WordElement.spelled in
    let number = g.F.PrimeNumbers.numbering.number in
    let m = c.args.num_vars in
    let count = c.args.count in
    let words = c.args.tables.now in
    let vs = c.in_ok-values.values.items in
    let ps = c.in_ok-addends.addends.items in
    let width : f.width ≡ g.F.WordElement.WIDTH = width_is f g.F.WordElement.WIDTH _ g.met.F.WordElement.spelled_law in
    let some = spelled_some f g.F.WordElement.WIDTH m count words width g.met.F.WordElement.width_law in
    let whole = spelled_whole f g.F.WordElement.WIDTH m count words width c.requires.whole in
    let zero_kept : number K.zero ≡ 0 = ap (λ k. number k.zero) g.met.F.PrimeNumbers.field_law ∙ g.F.PrimeNumbers.numbering.number_of 0 _ in
    let read = spelled_tables f g.F.WordElement.WIDTH m count words width (map (λ v. map number v.items) vs) c.requires.few c.in_ok-values.ensures.tables in
    IfSome_then c.of_sum.result c.of_sum.ensures.sum
    (λ prover is. (
      numbered number ps,
      c.in_ok-addends.ensures.spelled,
      c.in_ok-addends.ensures.reduced,
      sum_read K number f zero_kept some m count words vs ps (sum_of K prover) whole read is,
    ))

pub returns-clause-reduced : goal.returns-clause-reduced
returns-clause-reduced g c =
    let f = g.F.WordElement.spelled in
    let number = g.F.PrimeNumbers.numbering.number in
    let m = c.args.num_vars in
    let count = c.args.count in
    let words = c.args.tables.now in
    let vs = c.in_ok-values.values.items in
    let width : f.width ≡ g.F.WordElement.WIDTH = width_is f g.F.WordElement.WIDTH _ g.met.F.WordElement.spelled_law in
    let modulus : f.known.modulus ≡ g.F.PrimeNumbers.modulus = modulus_is f g.F.WordElement.WIDTH _ g.met.F.WordElement.spelled_law in
    let some = spelled_some f g.F.WordElement.WIDTH m count words width g.met.F.WordElement.width_law in
    let whole = spelled_whole f g.F.WordElement.WIDTH m count words width c.requires.whole in
    let read = spelled_tables f g.F.WordElement.WIDTH m count words width (map (λ v. map number v.items) vs) c.requires.few c.in_ok-values.ensures.tables in
    tables_below number f.known.modulus (λ x. subst (λ p. number x < p) (sym modulus) (g.F.PrimeNumbers.numbering.below x))
    (2 ^ m) count (numbers f.width words) vs (pow_pos m) (length-tables f.width (2 ^ m) words some count whole) read
