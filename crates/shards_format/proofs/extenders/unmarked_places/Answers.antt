use Rattle.std.proofs.Common.{◌≡◌, ℕ, ◌+◌, [], ◌∷◌, ◌++◌, sym, subst, ap, ◌∙◌, Vec, Global}
use Rattle.shards_format.proofs.PlaceLists.{Unmarked, unmarked_more, unmarked_same}
use Rattle.shards_format.proofs.extenders.unmarked_places.Goals as goal
use Rattle.shards_format.proofs.extenders.unmarked_places.Goals.{then-not-marks-j+in_ok-push, else-not-marks-j}

pub loop-j-preserved : goal.loop-j-preserved
loop-j-preserved c =
    let marks = c.args.marks.now in
    let places = c.loop-j.places.items in
    let j = c.loop-j.j in
    elim c.if-not-marks-j.branch [
      | then-not-marks-j+in_ok-push w ↦
          let is : c.if-not-marks-j.places.items ≡ places ++ j ∷ [] = ap (λ (p : Vec ℕ Global). p.items) w.places-is ∙ w.in_ok-push.ensures.items in
          subst (λ xs. Unmarked marks xs (j + 1)) (sym is) (unmarked_more marks places j c.loop-j.invariant w.if-not-marks-j.true)
      | else-not-marks-j w ↦
          subst (λ (p : Vec ℕ Global). Unmarked marks p.items (j + 1)) (sym w.places-is) (unmarked_same marks places j c.loop-j.invariant w.if-not-marks-j.false)
    ]
