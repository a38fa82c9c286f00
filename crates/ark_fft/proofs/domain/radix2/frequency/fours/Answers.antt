use Rattle.std.proofs.Common.{◌≡◌, ◌≢◌, ◌+◌, ◌*◌, map, inl, inr, subst, sym, refl, ◌∙◌, ⊎_elim, arith}
use Rattle.std.proofs.lemmas.Bool.{cases_eq}
use Rattle.ark_math.specs.Module.{item}
use Rattle.ark_math_transforms.proofs.Transforms.Places.{dft_at}
use Rattle.ark_fft.proofs.Cost.{none_grown, grows_twice}
use Rattle.ark_math_transforms.specs.BitReversal.{reversed}
use Rattle.ark_fft.proofs.Counts.{none_yet}
use Rattle.ark_fft.proofs.Fours.{same_block}
use Rattle.ark_fft.proofs.domain.radix2.frequency.fours.Goals as goal

pub loop-r-init : goal.loop-r-init
loop-r-init g c = record {
  counted = none_grown _;
  sums = λ w levels r q l s. none_yet r l;
  rest = λ k l. refl;
}

pub loop-r-preserved : goal.loop-r-preserved
loop-r-preserved g c =
    let K = g.F.Field.field in
    let V = g.T.Summand.group in
    let m = g.T.Summand.meaning in
    let i = c.loop-r.r in
    let v = c.loop-r.invariant in
    let f = c.four.ensures in
    record {
      counted = grows_twice v.counted f.counted (omega arith) (omega arith) refl;
      sums = λ w levels r q l s. ⊎_elim
          (λ (e : r ≡ i). subst (λ t. item V (map m c.four.new.xs) (4 * t + q) ≡ dft_at K V 4 w (λ b. item V (map m c.args.xs.now) (4 * t + b)) (reversed 2 q)) (sym e)
          (f.sums w levels q s ∙ same_block g.met.F.Field.field_laws g.met.T.Summand.module_laws m w c.loop-r.xs c.args.xs.now i i q (λ b a. v.rest (4 * i + b) (omega arith))))
          (λ (ne : r ≢ i). f.others (4 * r + q) (inl (omega arith)) ∙ v.sums w levels r q (omega arith) s)
          (cases_eq r i);
      rest = λ k l. f.others k (inr (omega arith)) ∙ v.rest k (omega arith);
    }

pub returns-clause-sums : goal.returns-clause-sums
returns-clause-sums g c = λ w levels r q l s. c.loop-r.invariant.sums w levels r q (omega arith) s
