use Rattle.std.proofs.Common.{refl, ◌≡◌, ◌≢◌, ℕ, map, get_or, ◌+◌, ◌*◌, ◌-◌, ◌<◌, ◌≤◌, ap, sym, ◌∙◌, arith, subst, ⊎_elim}
use Rattle.std.proofs.lemmas.Bool.{cases_eq}
use Rattle.ark_math.specs.Module.{item}
use Rattle.ark_fft.proofs.Cost.{grows_twice}
use borrow.Author.Count.{falls}
use Rattle.ark_fft.proofs.Counts.{none_yet, no_part, ended}
use Rattle.ark_fft.proofs.domain.mixed_radix.kernel.apply_all_twiddles.Goals as goal

pub loop-i-preserved : goal.loop-i-preserved
loop-i-preserved g c =
    let K = g.F.Field.field in
    let V = g.T.Summand.group in
    let m = g.T.Summand.meaning in
    let i0 = c.loop-i.i in
    let v = c.loop-i.invariant in
    let here : i0 ≤ i0 = omega arith in
    let factor = λ (r i : ℕ). V.scale (get_or c.args.level.now.roots.now (r * i * c.args.level.now.stride) K.zero) in
    let old = λ (k : ℕ). item V (map m c.args.parts.now) k in
    record {
      counted = grows_twice v.counted c.apply_twiddles.ensures.counted (omega arith) refl refl;
      done = λ one r i rl il.
          ⊎_elim
          (λ (e : i ≡ i0).
          subst (λ t. item V (map m c.apply_twiddles.new.parts) (r * c.args.level.now.part_len + t) ≡ factor r t (old (r * c.args.level.now.part_len + t))) (sym e)
          (c.apply_twiddles.ensures.twisted one r rl ∙ ap (factor r i0) (v.rest r i0 here c.loop-i-test.true)))
          (λ (ne : i ≢ i0). c.apply_twiddles.ensures.other_places r i (omega arith) ne ∙ v.done one r i rl (omega arith))
          (cases_eq i i0);
      rest = λ r k kl km.
          let ne : k ≢ i0 = omega arith in
          c.apply_twiddles.ensures.other_places r k km ne ∙ v.rest r k (omega arith) km;
    }

pub loop-i-init : goal.loop-i-init
loop-i-init g c = record {
  counted = no_part (c.args.level.now.base - 1) c.args.work.now;
  done = λ one r i rl il. none_yet i il;
  rest = λ r k kl km. refl;
}

pub loop-i-smaller : goal.loop-i-smaller
loop-i-smaller g c = falls c.args.level.now.part_len c.loop-i.i c.loop-i-test.true

pub returns-clause-twisted : goal.returns-clause-twisted
returns-clause-twisted g c = λ one r i rl il. c.loop-i.invariant.done one r i rl (subst (λ k. i < k) (sym (ended c.loop-i.i c.args.level.now.part_len c.loop-i.auto.i-end c.loop-i-test.false)) il)
