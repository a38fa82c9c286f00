use Rattle.std.proofs.Common.{◌≡◌, ◌+◌, [], ◌∷◌, get_or, length, ap, ◌∙◌, arith, below_more}
use Rattle.std.proofs.lemmas.List.{get_or_push, get_or_append_left, length-append}
use Rattle.ark_math.specs.Univariate.{of_list}
use Rattle.shards_lib.specs.Numbers.{place_element}
use Rattle.shards_lib.proofs.stripes.RowCode.elements.Goals as goal

pub loop-a-preserved : goal.loop-a-preserved
loop-a-preserved g c =
    let K = g.F.Field.field in
    let v = c.loop-a.invariant in
    let a = c.loop-a.a in
    let places = c.args.places.now in
    let ys = c.loop-a.elements.items in
    let y = c.element_at.result in
    let new = c.in_ok-push.ensures.items in
    record {
      len = ap length new ∙ length-append ys (y ∷ []) ∙ ap (λ t. t + 1) v.len;
      done = below_more _ a
          (λ k l. ap (λ t. of_list K t k) new ∙ get_or_append_left ys (y ∷ []) K.zero k (omega (arith, l, v.len)) ∙ v.done k l)
          (ap (λ t. of_list K t a) new ∙ get_or_push ys y K.zero a v.len ∙ c.element_at.ensures);
    }
