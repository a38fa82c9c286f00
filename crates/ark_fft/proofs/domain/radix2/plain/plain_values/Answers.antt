-- One place more.
use Rattle.std.proofs.Common.{◌≡◌, ◌<◌, ℕ, length, map, sym, ap, ◌∙◌, arith, rules, refl, add-one}
use Rattle.ark_math.specs.Field.{power}
use Rattle.ark_math.specs.Transform.{value_at}
use Rattle.ark_math.proofs.Lists.Lists.{written_more}
use Rattle.ark_math.proofs.Algebra.Solve.{◌⊗◌}
use Rattle.ark_math.proofs.Algebra.Ring.{ring3}
use Rattle.ark_fft.proofs.Cost.{grows_twice}
use Rattle.ark_fft.proofs.domain.radix2.plain.plain_values.Goals as goal

pub loop-i-preserved : goal.loop-i-preserved
loop-i-preserved g c =
    let K = g.F.Field.field in
    let V = g.T.Summand.group in
    let m = g.T.Summand.meaning in
    let i = c.loop-i.i in
    let v = c.loop-i.invariant in
    let items = map m c.args.items.now in
    let point = λ (k : ℕ). K.times c.args.offset (power K c.args.root k) in
    let inside : i < length c.loop-i.values = omega arith in
    record {
      counted = grows_twice v.counted c.plain_value.ensures.counted (omega arith) refl refl;
      next_point =
          let q : c.mul-point.result ≡ K.times c.loop-i.point c.args.root = search rules in
          q
          ∙ (ap (λ t. K.times t c.args.root) v.next_point
          ∙ (ring3 K g.met.F.Field.field_laws (λ o p r. ((o ⊗ p) ⊗ r, o ⊗ (r ⊗ p))) refl c.args.offset (power K c.args.root i) c.args.root
          ∙ ap point (sym (add-one i))));
      before = written_more m V.zero (λ k. value_at K V items (point k)) c.loop-i.values i c.plain_value.result inside v.before
          (c.plain_value.ensures.value ∙ ap (value_at K V items) v.next_point);
    }

pub mul-point-requires : goal.mul-point-requires
mul-point-requires g c = g.met.F.Field.can_mul_law _ _
