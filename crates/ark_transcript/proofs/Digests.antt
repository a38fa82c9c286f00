-- Challenges that are equal come from one text, or the texts of their first blocks collide.
use Rattle.std.proofs.Common.{◌≡◌, ◌⊎◌, ℕ, ◌<◌, ◌≤◌, ◌/◌, ◌%◌, List, ◌++◌, get_or, slice_index, arith, sym, ◌∙◌, ap, refl, inl, inr, eqb, true, false, Bool, lit<}
use Rattle.std.specs.Int.{w64, to_le_bytes}
use Rattle.std.specs.Cmp.Lexicographic.{pointwise, pointwise_decides}
use Rattle.std.proofs.lemmas.Bool.Decides.{Decides-eqb}
use Rattle.std.proofs.lemmas.Grind.{same_number_lists}
use Rattle.std.proofs.lemmas.List.{same_from_push}
use Rattle.sha2.specs.Sha256.{sha256}
use Rattle.sha2.proofs.Facts256.{length-sha256}
use Rattle.ark_math.proofs.Lists.Tabulated.{get_or-tabulate}
use Rattle.ark_transcript.specs.Calls.{AllFit, Asked, Call, spelled}
use Rattle.ark_transcript.specs.Challenges.{Collide, block, challenge_of, hashed_for, squeezed, then_asked}
use Rattle.ark_transcript.proofs.Spellings.{same_blocks}

-- texts with one digest are one text, or they collide
by_test : (xs ys : List ℕ) (b : Bool) → pointwise eqb xs ys ≡ b → sha256 xs ≡ sha256 ys → (xs ≡ ys) ⊎ Collide xs ys
by_test xs ys true e same = inl ((pointwise_decides Decides-eqb xs ys).0 e)
by_test xs ys false e same =
    inr (record { differ = λ one. let yes = (pointwise_decides Decides-eqb xs ys).1 one in cc (yes, e); same = same })

same_text : (xs ys : List ℕ) → sha256 xs ≡ sha256 ys → (xs ≡ ys) ⊎ Collide xs ys
same_text xs ys same = by_test xs ys (pointwise eqb xs ys) refl same

-- the first 32 bytes are those of the first block
first_byte : (text : List ℕ) (size j : ℕ) → 32 ≤ size → j < 32 → get_or (squeezed text size) j 0 ≡ get_or (block text 0) j 0
first_byte text size j long below =
    let first : j / 32 ≡ 0 = omega (arith, below) in
    let place : j % 32 ≡ j = omega (arith, below) in
    get_or-tabulate size (λ j. slice_index (block text (j / 32)) (j % 32)) j 0 (omega (arith, long, below))
    ∙ ap (λ i. slice_index (block text i) (j % 32)) first ∙ ap (λ i. slice_index (block text 0) i) place

first_block : (text other : List ℕ) (size : ℕ) → 32 ≤ size → squeezed text size ≡ squeezed other size → block text 0 ≡ block other 0
first_block text other size long same =
    let len = length-sha256 (text ++ to_le_bytes w64 0) in
    same_number_lists (block text 0) (block other 0) (len ∙ sym (length-sha256 (other ++ to_le_bytes w64 0))) (λ j l.
    let below : j < 32 = rw len at l in
    sym (first_byte text size j long below) ∙ ap (λ xs. get_or xs j 0) same ∙ first_byte other size j long below)

pub challenges_differ : (cs ds : List Call) (label other : List ℕ) (size : ℕ) → 32 ≤ size → AllFit (then_asked cs label size) → AllFit (then_asked ds other size)
    → challenge_of cs label size ≡ challenge_of ds other size → ((cs ≡ ds) × (label ≡ other)) ⊎ Collide (hashed_for cs label size) (hashed_for ds other size)
challenges_differ cs ds label other size long f g same =
    let s = spelled (then_asked cs label size) in
    let t = spelled (then_asked ds other size) in
    elim (same_text (hashed_for cs label size) (hashed_for ds other size) (first_block s t size long same)) [
      | inl one ↦
          let blocks = same_blocks (then_asked cs label size) (then_asked ds other size) 0 0 f g (lit< tt) (lit< tt) one in
          let parts = same_from_push cs ds (Asked label size) (Asked other size) blocks.0 in
          let labels : label ≡ other = let last = parts.1 in cc in
          inl (parts.0, labels)
      | inr collision ↦ inr collision
    ]
