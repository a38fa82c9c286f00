-- A proof that was read has the values of all rounds that its bytes spell.
use Rattle.std.proofs.Common.{◌≡◌, ℕ, ◌^◌, ◌<◌, List, [], ◌∷◌, Vec, Global, length, map, refl, sym, ap, ap₂, arith}
use Rattle.std.specs.List.{AllByRecursion}
use Rattle.std.proofs.lemmas.List.{length-map}
use Rattle.ark_math_formats.specs.Format.{Format, HaveSpellings, IsFormat, IsOneToOne, list}
use Rattle.ark_math_formats.proofs.Formats.Ends.{list_is_format}
use Rattle.ark_math_formats.proofs.Formats.OneToOne.{list_tells}
use Rattle.ark_sum_check.specs.Rounds.{Round, challenges, rounds_at}
use Rattle.ark_sum_check.proofs.Vectors.{first, rest}
use Rattle.ark_fiat_shamir.specs.Sent.{sent}
use Rattle.ark_fiat_shamir.specs.declared.proof.SumCheckProof.{SumCheckProof}

module _ {F : Type 0} (e : Format F) (I : IsFormat e) (one : IsOneToOne e) (all : (x : F) → e.HasSpelling x) where
  have_items : (xs : List F) → HaveSpellings e xs
  have_items [] = tt
  have_items (x ∷ xs) = (all x, have_items xs)

  have_lists : (vs : List (Vec F Global)) → HaveSpellings (list e) (map (λ v. v.items) vs)
  have_lists [] = tt
  have_lists (v ∷ vs) = ((omega (arith, v.ok.0, v.ok.1, v.small), have_items v.items), have_lists vs)

  have_counted : (n : ℕ) → n < 2 ^ 64 → (xss : List (List F)) → AllByRecursion (λ xs. length xs ≡ n) xss → HaveSpellings (list e) xss
  have_counted n small [] h = tt
  have_counted n small (xs ∷ xss) h = ((omega (arith, small, h.0), have_items xs), have_counted n small xss h.1)

  pub values_read : (p : SumCheckProof F) (rs : List (Round F)) (n : ℕ) → length rs < 2 ^ 64 → n < 2 ^ 64 → AllByRecursion (λ xs. length xs ≡ n) (map (λ r. r.values) rs)
      → (list (list e)).spelling (map (λ r. r.values) rs) ≡ (list (list e)).spelling (sent p) → map (λ r. r.values) rs ≡ sent p
  values_read p rs n few small counted spelled =
      let count : length (map (λ (r : Round F). r.values) rs) ≡ length rs = length-map rs (λ r. r.values) in
      let own : length (sent p) ≡ length p.rounds.items = length-map p.rounds.items (λ v. v.items) in
      list_tells (list e) (list_is_format e I) (list_tells e I one) (map (λ r. r.values) rs) (sent p)
      (omega (arith, count, few), have_counted n small (map (λ r. r.values) rs) counted)
      (omega (arith, own, p.rounds.ok.0, p.rounds.ok.1, p.rounds.small), have_lists p.rounds.items)
      spelled

-- the rounds, by their values and their challenges
pub rounds_again : {F : Type 0} (vs : List (Vec F Global)) (rs : List (Round F)) → map (λ r. r.values) rs ≡ map (λ v. v.items) vs → rounds_at vs (challenges rs) ≡ rs
rounds_again [] [] e = refl
rounds_again [] (r ∷ rs) e = cc
rounds_again (v ∷ vs) [] e = cc
rounds_again (v ∷ vs) (r ∷ rs) e =
    ap₂ (λ values more. record { values = values; challenge = r.challenge } ∷ more) (sym (ap (first r.values) e)) (rounds_again vs rs (ap rest e))
