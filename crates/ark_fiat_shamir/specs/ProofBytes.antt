-- Proofs in bytes: the list of the rounds, each the list of its values.
use Rattle.std.specs.Prelude.{List, Vec, map}
use Rattle.std.specs.declared.alloc.Global.{Global}
use Rattle.ark_math_formats.specs.Format.{Format, IsFormat, IsOneToOne, KeepsAlike, Tells, list, stored}
use Rattle.ark_math_formats.proofs.Formats.Ends.{list_is_format, lawful_is_format}
use Rattle.ark_math_formats.proofs.Formats.Modes.{keeps_in_lists, keeps_by_fields}
use Rattle.ark_math_formats.proofs.Formats.OneToOne.{list_shows, list_tells, lawful_shows}
use Rattle.ark_fiat_shamir.specs.declared.proof.SumCheckProof.{SumCheckProof}
use Rattle.ark_fiat_shamir.specs.Sent.{sent}

-- a round
abbrev pub round_format : {F : Type 0} → Format F → Format (Vec F Global)
round_format e = stored (list e) (λ v. v.items)

-- all rounds
abbrev pub proof_format : {F : Type 0} → Format F → Format (SumCheckProof F)
proof_format e = stored (list (round_format e)) (λ p. p.rounds.items)

module _ {F : Type 0} (e : Format F) (E : IsFormat e) where
  round_is_format : IsFormat (round_format e)
  round_is_format = lawful_is_format (list e) (λ v. v.items) (λ _. Unit {0}) (list_is_format e E)

  pub proof_is_format : IsFormat (proof_format e)
  proof_is_format =
      lawful_is_format (list (round_format e)) (λ p. p.rounds.items) (λ _. Unit {0}) (list_is_format (round_format e) round_is_format)

  round_tells : {V : Type 0} (view : F → V) → Tells view e → Tells {V = List V} (λ v. map view v.items) (round_format e)
  round_tells view one =
      lawful_shows (list e) (λ v. v.items) (λ _. Unit {0}) (map view) (λ v. map view v.items) (list_shows e E view one) (λ x y same. same)

  pub proof_tells : {V : Type 0} (view : F → V) → Tells view e → Tells {V = List (List V)} (λ p. map (λ v. map view v.items) p.rounds.items) (proof_format e)
  proof_tells view one =
      lawful_shows (list (round_format e)) (λ p. p.rounds.items) (λ _. Unit {0}) (map (λ v. map view v.items)) (λ p. map (λ v. map view v.items) p.rounds.items)
      (list_shows (round_format e) round_is_format (λ v. map view v.items) (round_tells view one)) (λ x y same. same)

  -- where elements are told by their bytes, each round's values are
  pub values_told : IsOneToOne e → Tells sent (proof_format e)
  values_told one =
      lawful_shows (list (round_format e)) (λ p. p.rounds.items) (λ _. Unit {0}) (map (λ v. v.items)) sent
      (list_shows (round_format e) round_is_format (λ v. v.items)
      (lawful_shows (list e) (λ v. v.items) (λ _. Unit {0}) (λ us. us) (λ v. v.items) (list_tells e E one) (λ x y same. same)))
      (λ x y same. same)

  pub proof_keeps : (f : Format F) → KeepsAlike e f → KeepsAlike (proof_format e) (proof_format f)
  proof_keeps f one =
      keeps_by_fields (list (round_format e)) (list (round_format f)) (λ p. p.rounds.items) (λ _. Unit {0})
      (keeps_in_lists (round_format e) (round_format f) round_is_format
      (keeps_by_fields (list e) (list f) (λ v. v.items) (λ _. Unit {0}) (keeps_in_lists e f E one)))
