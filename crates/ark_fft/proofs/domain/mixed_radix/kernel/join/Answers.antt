use Rattle.std.proofs.Common.{refl, ◌≡◌, ◌≢◌, ℕ, map, ◌+◌, ◌-◌, ◌*◌, ◌<◌, ap, sym, ◌∙◌, arith, subst, ⊎_elim}
use Rattle.std.proofs.lemmas.Bool.{cases_eq}
use Rattle.ark_math.specs.Cost.{Counts, GrowsBy, counts}
use Rattle.ark_fft.specs.Mixed.{joined}
use Rattle.ark_math.specs.Module.{item}
use Rattle.ark_fft.proofs.Cost.{none_grown, grows_twice}
use Rattle.ark_fft.proofs.Counts.{positive, none_below, none_yet, ended, not_last, no_places}
use Rattle.ark_fft.proofs.Parts.{joined_twisted, rows_less}
use Rattle.ark_fft.proofs.domain.mixed_radix.kernel.join.Goals as goal

all_rows : {before after : Counts} (j q m : ℕ) → 1 < q → j ≡ q → GrowsBy (counts ((q - 1) * m + j * ((q - 1) * m)) 0 m) before after → GrowsBy (counts ((q * q - 1) * m) 0 m) before after
all_rows {before} {after} j q m base end rows =
    subst (λ k. GrowsBy (counts k 0 m) before after) (ap (λ k. (q - 1) * m + k * ((q - 1) * m)) end ∙ rows_less q m (positive q base)) rows

pub loop-j-init : goal.loop-j-init
loop-j-init g c = record {
  counted = grows_twice c.apply_all_twiddles.ensures.counted (none_grown _) (omega arith) refl (omega arith);
  done = λ one j i jl il. none_yet j jl;
}

pub sum_row-requires-clause-parts_size : goal.sum_row-requires-clause-parts_size
sum_row-requires-clause-parts_size g c = c.apply_all_twiddles.auto.parts ∙ c.requires.parts_size

pub sum_row-requires-clause-whole_size : goal.sum_row-requires-clause-whole_size
sum_row-requires-clause-whole_size g c = c.loop-j.auto.whole ∙ c.requires.whole_size

pub loop-j-preserved : goal.loop-j-preserved
loop-j-preserved g c =
    let K = g.F.Field.field in
    let V = g.T.Summand.group in
    let m = g.T.Summand.meaning in
    let j0 = c.loop-j.j in
    let v = c.loop-j.invariant in
    let old = λ (k : ℕ). item V (map m c.args.parts.now) k in
    let twisted = λ (k : ℕ). item V (map m c.apply_all_twiddles.new.parts) k in
    record {
      counted = grows_twice v.counted c.sum_row.ensures.counted (omega arith) refl (omega arith);
      done = λ one j i jl il.
          ⊎_elim
          (λ (e : j ≡ j0).
          subst (λ t. item V (map m c.sum_row.new.whole) (t * c.args.level.now.part_len + i) ≡ joined K V c.args.level.now.roots.now c.args.level.now.base c.args.level.now.part_len c.args.level.now.stride old t i) (sym e)
          (c.sum_row.ensures.sums i il
          ∙ joined_twisted K V c.args.level.now.roots.now c.args.level.now.base c.args.level.now.part_len c.args.level.now.stride twisted old j0 i (λ r rl. c.apply_all_twiddles.ensures.twisted one r i rl il)))
          (λ (ne : j ≢ j0). c.sum_row.ensures.other_rows j i il ne ∙ v.done one j i (not_last j j0 jl ne) il)
          (cases_eq j j0);
    }

pub returns-after-loop-j-clause-counted : goal.returns-after-loop-j-clause-counted
returns-after-loop-j-clause-counted g c =
    all_rows c.loop-j.j c.args.level.now.base c.args.level.now.part_len c.requires.level.above_one (ended c.loop-j.j c.args.level.now.base c.loop-j.auto.j-end c.loop-j-test.false) c.loop-j.invariant.counted

pub returns-after-loop-j-clause-joined : goal.returns-after-loop-j-clause-joined
returns-after-loop-j-clause-joined g c = λ one j i jl il.
    c.loop-j.invariant.done one j i (subst (λ k. j < k) (sym (ended c.loop-j.j c.args.level.now.base c.loop-j.auto.j-end c.loop-j-test.false)) jl) il

pub returns-else-level-gt0-clause-counted : goal.returns-else-level-gt0-clause-counted
returns-else-level-gt0-clause-counted g c = no_places (c.args.level.now.base - 1) (c.args.level.now.base * c.args.level.now.base - 1) c.args.level.now.part_len c.if-level-gt0.false c.apply_all_twiddles.ensures.counted

pub returns-else-level-gt0-clause-joined : goal.returns-else-level-gt0-clause-joined
returns-else-level-gt0-clause-joined g c = λ one j i jl il. none_below i c.args.level.now.part_len il c.if-level-gt0.false
