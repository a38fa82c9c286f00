-- Evaluations in bytes: their layout is a format, tells what the spellings of elements and domains do, and is told by both
-- modes where these are.
use Rattle.std.specs.Prelude.{List, map}
use Rattle.ark_math_formats.specs.Format.{Format, IsFormat, KeepsAlike, Tells, ◌⊗◌, list}
use Rattle.ark_univariate.specs.Layouts.{evaluations}
use Rattle.ark_math_formats.proofs.Formats.Ends.{pair_is_format, list_is_format, lawful_is_format}
use Rattle.ark_math_formats.proofs.Formats.Modes.{keeps_in_pairs, keeps_in_lists, keeps_by_fields}
use Rattle.ark_math_formats.proofs.Formats.OneToOne.{pair_shows, list_shows, lawful_shows}
use Rattle.ark_univariate.specs.Values.{Values, list_and_domain}

module _ {F D : Type 0} (e : Format F) (d : Format D) (IsLawful : Values F D → Type 0) (E : IsFormat e) (L : IsFormat d) where
  pub values_is_format : IsFormat (evaluations e d list_and_domain IsLawful)
  values_is_format = lawful_is_format (list e ⊗ d) list_and_domain IsLawful (pair_is_format (list e) d (list_is_format e E) L)

  pub values_tell : {V W : Type 0} (view : F → V) (shown : D → W) → Tells view e → Tells shown d
      → Tells {V = List V × W} (λ v. (map view v.evals, shown v.domain)) (evaluations e d list_and_domain IsLawful)
  values_tell view shown one two =
      lawful_shows (list e ⊗ d) list_and_domain IsLawful (λ p. (map view p.0, shown p.1)) (λ v. (map view v.evals, shown v.domain))
      (pair_shows (list e) d (list_is_format e E) (map view) shown (list_shows e E view one) two) (λ x y same. same)

  pub values_keep : (f : Format F) (c : Format D) → KeepsAlike e f → KeepsAlike d c → KeepsAlike (evaluations e d list_and_domain IsLawful) (evaluations f c list_and_domain IsLawful)
  values_keep f c one two =
      keeps_by_fields (list e ⊗ d) (list f ⊗ c) list_and_domain IsLawful (keeps_in_pairs (list e) (list f) d c (list_is_format e E) (keeps_in_lists e f E one) two)
