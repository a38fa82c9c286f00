-- What is hashed tells the calls.
use Rattle.std.proofs.Common.{◌≡◌, ℕ, ◌<◌, ◌^◌, List, [], ◌∷◌, ◌++◌, length, take, drop, arith, sym, ◌∙◌, ap, ap₂, refl, append_assoc}
use Rattle.std.specs.Int.{w64, to_le_bytes, from_le_bytes}
use Rattle.std.proofs.lemmas.List.{length-append, take_at, drop_at}
use Rattle.std.proofs.lemmas.Nat.{from_le_bytes-to_le_bytes_8}
use Rattle.ark_transcript.specs.Calls.{Call, Begun, Absorbed, Asked, AllFit, Fits, counted, spelled, spelled_call}

-- two lists of one length, with more after each
pub same_split : (a b x y : List ℕ) → length a ≡ length b → a ++ x ≡ b ++ y → (a ≡ b) × (x ≡ y)
same_split a b x y size e = (
  sym (take_at a x (length a) refl) ∙ ap (take (length a)) e ∙ take_at b y (length a) (sym size),
  sym (drop_at a x (length a) refl) ∙ ap (drop (length a)) e ∙ drop_at b y (length a) (sym size),
)

-- numbers below 2^64
number_split : (m n : ℕ) (x y : List ℕ) → m < 2 ^ 64 → n < 2 ^ 64 → to_le_bytes w64 m ++ x ≡ to_le_bytes w64 n ++ y → (m ≡ n) × (x ≡ y)
number_split m n x y a b e =
    let parts = same_split (to_le_bytes w64 m) (to_le_bytes w64 n) x y refl e in
    (sym (from_le_bytes-to_le_bytes_8 m a) ∙ ap (λ xs. from_le_bytes w64 xs) parts.0 ∙ from_le_bytes-to_le_bytes_8 n b, parts.1)

counted_split : (a b x y : List ℕ) → length a < 2 ^ 64 → length b < 2 ^ 64 → counted a ++ x ≡ counted b ++ y → (a ≡ b) × (x ≡ y)
counted_split a b x y few less e =
    let regrouped = sym (append_assoc (to_le_bytes w64 (length a)) a x) ∙ e ∙ append_assoc (to_le_bytes w64 (length b)) b y in
    let parts = number_split (length a) (length b) (a ++ x) (b ++ y) few less regrouped in
    same_split a b x y parts.0 parts.1

-- a label and what follows
labelled : (a b s t x y : List ℕ) → length a < 2 ^ 64 → length b < 2 ^ 64 → (counted a ++ s) ++ x ≡ (counted b ++ t) ++ y → (a ≡ b) × (s ++ x ≡ t ++ y)
labelled a b s t x y few less e =
    counted_split a b (s ++ x) (t ++ y) few less (sym (append_assoc (counted a) s x) ∙ e ∙ append_assoc (counted b) t y)

call_split : (c d : Call) (x y : List ℕ) → Fits c → Fits d → spelled_call c ++ x ≡ spelled_call d ++ y → (c ≡ d) × (x ≡ y)
call_split (Begun a) (Begun b) x y f g e =
    let rest : counted a ++ x ≡ counted b ++ y = cc in
    let parts = counted_split a b x y f g rest in
    (ap Begun parts.0, parts.1)
call_split (Absorbed a s) (Absorbed b t) x y f g e =
    let rest : (counted a ++ counted s) ++ x ≡ (counted b ++ counted t) ++ y = cc in
    let label = labelled a b (counted s) (counted t) x y f.0 g.0 rest in
    let parts = counted_split s t x y f.1 g.1 label.1 in
    (ap₂ Absorbed label.0 parts.0, parts.1)
call_split (Asked a m) (Asked b n) x y f g e =
    let rest : (counted a ++ to_le_bytes w64 m) ++ x ≡ (counted b ++ to_le_bytes w64 n) ++ y = cc in
    let label = labelled a b (to_le_bytes w64 m) (to_le_bytes w64 n) x y f.0 g.0 rest in
    let parts = number_split m n x y f.1 g.1 label.1 in
    (ap₂ Asked label.0 parts.0, parts.1)
call_split (Begun a) (Absorbed b t) x y f g e = cc
call_split (Begun a) (Asked b n) x y f g e = cc
call_split (Absorbed a s) (Begun b) x y f g e = cc
call_split (Absorbed a s) (Asked b n) x y f g e = cc
call_split (Asked a m) (Begun b) x y f g e = cc
call_split (Asked a m) (Absorbed b t) x y f g e = cc

not_nothing : (c : Call) (x : List ℕ) → [] ≡ spelled_call c ++ x → ⊥
not_nothing (Begun a) x e = cc
not_nothing (Absorbed a s) x e = cc
not_nothing (Asked a m) x e = cc

-- calls that are spelled alike are the same
pub same_calls : (cs ds : List Call) → AllFit cs → AllFit ds → spelled cs ≡ spelled ds → cs ≡ ds
same_calls [] [] f g e = refl
same_calls [] (d ∷ ds) f g e = absurd (not_nothing d (spelled ds) e)
same_calls (c ∷ cs) [] f g e = absurd (not_nothing c (spelled cs) (sym e))
same_calls (c ∷ cs) (d ∷ ds) f g e =
    let parts = call_split c d (spelled cs) (spelled ds) f.0 g.0 e in
    ap₂ (λ x xs. x ∷ xs) parts.0 (same_calls cs ds f.1 g.1 parts.1)

-- also with the number of a block after them
pub same_blocks : (cs ds : List Call) (i j : ℕ) → AllFit cs → AllFit ds → i < 2 ^ 64 → j < 2 ^ 64 → spelled cs ++ to_le_bytes w64 i ≡ spelled ds ++ to_le_bytes w64 j → (cs ≡ ds) × (i ≡ j)
same_blocks cs ds i j f g few less e =
    let sizes = ap length e in
    let size : length (spelled cs) ≡ length (spelled ds) =
    omega (arith, sizes, length-append (spelled cs) (to_le_bytes w64 i), length-append (spelled ds) (to_le_bytes w64 j)) in
    let parts = same_split (spelled cs) (spelled ds) (to_le_bytes w64 i) (to_le_bytes w64 j) size e in (
      same_calls cs ds f g parts.0,
      sym (from_le_bytes-to_le_bytes_8 i few) ∙ ap (λ xs. from_le_bytes w64 xs) parts.1 ∙ from_le_bytes-to_le_bytes_8 j less,
    )
