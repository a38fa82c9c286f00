use Rattle.std.proofs.Common.{◌≡◌, ◌<◌, Bool, true, false, List, length, get_or, drop, arith, sym, subst, ap, ◌∙◌}
use Rattle.std.proofs.lemmas.List.{take_at}
use Rattle.shards_format.proofs.PlaceLists.{missing_places}
use Rattle.shards_format.proofs.extenders.missing_places.Goals as goal

pub returns : goal.returns
returns c =
    let k = c.args.k in
    let places = c.args.places.now in
    let marks = c.mark_places.new.marks in
    let first = c.as_mut_slice.result.now in
    let len : length marks ≡ c.in_ok-is_given.is_given.len = omega (arith, c.mark_places.auto.marks, c.as_mut_slice.ensures.len) in
    let is : c.deref.result.now ≡ marks = c.deref.ensures.value ∙ take_at marks (drop (length marks) c.in_ok-is_given.is_given.items) c.in_ok-is_given.is_given.len len in
    let old : length first ≡ k = omega (arith, c.as_mut_slice.ensures.len, c.in_ok-is_given.ensures.len) in
    missing_places k c.deref.result.now places c.in_ok-missing.missing.items (ap length is ∙ len ∙ c.in_ok-is_given.ensures.len)
    (λ j h w. subst (λ (m : List Bool). get_or m j false ≡ true) (sym is) (c.mark_places.ensures.marked j (subst (λ n. j < n) (sym old) h) w))
    (λ j h e. c.mark_places.ensures.others j (subst (λ n. j < n) (sym old) h) (subst (λ (m : List Bool). get_or m j false ≡ true) is e))
    (record {
      few = c.in_ok-missing.ensures.few;
      below = c.in_ok-missing.ensures.below;
      apart = c.in_ok-missing.ensures.apart;
      unmarked = c.in_ok-missing.ensures.unmarked;
      all = c.in_ok-missing.ensures.all;
    })
