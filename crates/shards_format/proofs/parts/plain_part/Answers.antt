use Rattle.std.proofs.Common.{◌≡◌, ℕ, ◌*◌, ◌<◌, ◌++◌, List, length, get_or, arith, sym, subst, ap, ◌∙◌, refl, inl, inr}
use Rattle.std.proofs.lemmas.List.{get_or_past}
use Rattle.std.proofs.lemmas.Bool.{cases_lt}
use Rattle.shards_format.specs.Pieces.{chunk}
use Rattle.shards_format.proofs.JoinLists.{small_chunk}
use Rattle.shards_format.proofs.parts.plain_part.Goals as goal

pub returns-clause-bytes : goal.returns-clause-bytes
returns-clause-bytes c = λ i.
    let size = 2 * c.args.count in
    let block = c.args.block.now in
    let first = c.extend_from_slice.new.self.items in
    let part = c.resize.new.self.items in
    let same : first ≡ chunk size c.args.place block =
    c.in_ok-extend_from_slice.ensures.items ∙ ap (λ xs. xs ++ c.chunk.result.now) c.in_ok-part.ensures.items ∙ c.chunk.ensures in
    let small : get_or first i 0 < 256 = subst (λ (xs : List ℕ). get_or xs i 0 < 256) (sym same) (small_chunk size c.args.place block (λ i. omega (arith, c.type_inv.block i)) i) in
    elim (cases_lt i size) [
      | inl h ↦ elim (cases_lt i (length first)) [
        | inl l ↦ subst (λ x. x < 256) (sym (c.in_ok-resize.ensures.by_index.0 i 0 h (omega (arith, l, c.extend_from_slice.new.self.ok)))) small
        | inr l ↦ subst (λ x. x < 256) (sym (c.in_ok-resize.ensures.by_index.1 i 0 refl (omega (arith, l, c.extend_from_slice.new.self.ok)) h)) (omega arith)
      ]
      | inr h ↦ subst (λ x. x < 256) (sym (get_or_past part i 0 (omega (arith, h, c.in_ok-resize.ensures.len, c.resize.new.self.ok)))) (omega arith)
    ]
