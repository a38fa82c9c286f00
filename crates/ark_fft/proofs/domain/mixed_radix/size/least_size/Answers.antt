use Rattle.std.proofs.Common.{◌≡◌, ◌↔◌, ◌+◌, Bool, IsTrue, false, arith, Some, IsSome, sym, ap, subst, refl}
use Rattle.ark_math.specs.Root.{odd_most}
use Rattle.ark_math_transforms.proofs.Domains.MixedSizes.{IsLeastBelow, base_above, least_below-none, least_below-more, least_below-kept, least_below-same, least_of_all, none_of_all}
use Rattle.ark_fft.proofs.domain.mixed_radix.size.least_size.Goals as goal
use Rattle.ark_fft.proofs.domain.mixed_radix.size.least_size.Goals.{in-Some+then-improves, in-Some+else-improves, in_default}

refused : {P : Type 0} (answer : Bool) → IsTrue answer ↔ P → answer ≡ false → P → ⊥
refused answer decides is_false fact = cc (decides.1 fact, is_false)

pub loop-odds-init : goal.loop-odds-init
loop-odds-init g c = least_below-none g.F.FftField.adicity c.args.num_coeffs

pub loop-odds-preserved : goal.loop-odds-preserved
loop-odds-preserved g c =
    let s = g.F.FftField.adicity in
    let k = c.args.num_coeffs in
    let b = c.loop-odds.odds in
    let old = c.loop-odds.least in
    elim c.match-least_with.branch [
      | in-Some+then-improves w ↦
          subst (IsLeastBelow s k (b + 1)) (sym w.least-is)
          (least_below-more s k b w.in-Some.size w.in-Some.twos old w.in-Some.ensures.least w.in-Some.ensures.splits (w.improves.ensures.0 w.if-improves.true) c.loop-odds.invariant)
      | in-Some+else-improves w ↦
          subst (IsLeastBelow s k (b + 1)) (sym w.least-is)
          (least_below-kept s k b w.in-Some.size old w.in-Some.ensures.least (refused w.improves.result w.improves.ensures w.if-improves.false) c.loop-odds.invariant)
      | in_default w ↦
          subst (IsLeastBelow s k (b + 1)) (sym w.least-is)
          (least_below-same s k b old w.in_default.ensures.none c.loop-odds.invariant)
    ]

pub returns-clause-least : goal.returns-clause-least
returns-clause-least g c =
    let s = g.F.FftField.adicity in
    let e : s.odd ≡ Some (c.in_ok-base.base, c.in_ok-base.most) = sym c.in_ok-base.ensures in
    let most : odd_most s.odd ≡ c.in_ok-base.most = ap odd_most e in
    let based : IsSome s.odd = subst (λ o. IsSome o) (sym e) refl in
    least_of_all s c.args.num_coeffs c.loop-odds.odds (base_above s.odd _ g.met.F.FftField.roots_law.base e) (omega arith) c.loop-odds.least based c.loop-odds.invariant

pub returns-clause-none : goal.returns-clause-none
returns-clause-none g c =
    let s = g.F.FftField.adicity in
    let e : s.odd ≡ Some (c.in_ok-base.base, c.in_ok-base.most) = sym c.in_ok-base.ensures in
    let most : odd_most s.odd ≡ c.in_ok-base.most = ap odd_most e in
    none_of_all s c.args.num_coeffs c.loop-odds.odds (base_above s.odd _ g.met.F.FftField.roots_law.base e) (omega arith) c.loop-odds.least c.loop-odds.invariant
