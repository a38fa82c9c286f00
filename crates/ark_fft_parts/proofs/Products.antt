-- A product of polynomials by parts, whose values are never put in order.
use Rattle.std.proofs.Common.{◌≡◌, ◌≢◌, ℕ, ◌+◌, ◌*◌, ◌<◌, ◌≤◌, List, length, sym, ◌∙◌, ap₂, arith}
use Rattle.std.proofs.lemmas.Nat.{mul-add-lt}
use Rattle.ark_math.specs.Field.{FieldOn, IsField}
use Rattle.ark_math.specs.Module.{itself, tabulate}
use Rattle.ark_math.specs.Root.{HasOrder}
use Rattle.ark_math.specs.Domain.{Domain}
use Rattle.ark_math.specs.Transform.{transform}
use Rattle.ark_math.specs.Univariate.{IsBelow, of_list, product}
use Rattle.ark_math.proofs.Algebra.Groups.{itself_is_module}
use Rattle.ark_math.proofs.Lists.Tabulated.{item-tabulate, length-tabulate}
use Rattle.ark_math_domains.proofs.OverDomains.PlaceValues.{transform-values, inverse-values}
use Rattle.ark_math_domains.proofs.OverDomains.Vanishing.{interpolated_product}
use Rattle.ark_fft_parts.specs.Parts.{AreInParts, AreRowsUnmade, AreColumnsUnmade, AreProducts}
use Rattle.ark_fft_parts.proofs.Unmaking.{parts_make_the_inverse}

module _ {F : Type 0} {K : FieldOn F} (N : IsField K) (d : Domain F) (r c : ℕ) where
  -- the values' products, in the domain's order
  ordered : List F → List F → List F
  ordered a b = tabulate d.size (λ k. K.times (of_list K (transform K (itself K) d a) k) (of_list K (transform K (itself K) d b) k))

  ordered_parts : (a b : List F) (p q rows : ℕ → List F) → d.size ≡ r * c → AreInParts (itself K) r c (transform K (itself K) d a) p → AreInParts (itself K) r c (transform K (itself K) d b) q → AreProducts K r c p q rows → AreInParts (itself K) r c (ordered a b) rows
  unfolding ordered
  ordered_parts a b p q rows size of_a of_b products i j l m =
      let place : j * r + i < r * c = mul-add-lt j r i c m l in
      let below : i + r * j < d.size = omega (arith, place, size) in
      products i j l m
      ∙ (ap₂ K.times (of_a i j l m) (of_b i j l m)
      ∙ sym (item-tabulate (itself K) d.size (λ k. K.times (of_list K (transform K (itself K) d a) k) (of_list K (transform K (itself K) d b) k)) (i + r * j) below))

  pub parts_make_the_product : (a b x : List F) (p q rows before : ℕ → List F) → HasOrder K d.root d.size → d.offset ≢ K.zero → d.size ≡ r * c → length a ≤ d.size → length b ≤ d.size → length x ≡ d.size → IsBelow K d.size (product K (of_list K a) (of_list K b)) →
      AreInParts (itself K) r c (transform K (itself K) d a) p → AreInParts (itself K) r c (transform K (itself K) d b) q → AreProducts K r c p q rows → AreRowsUnmade K (itself K) d r c rows before → AreColumnsUnmade K (itself K) d r c before x → of_list K x ≡ product K (of_list K a) (of_list K b)
  unfolding ordered
  parts_make_the_product a b x p q rows before order off size short_a short_b len below of_a of_b products of_rows of_columns =
      let w = ordered a b in
      let len_w : length w ≡ d.size = length-tabulate d.size _ in
      let inverse = parts_make_the_inverse N (itself_is_module K N) d r c w x rows before size order.one (ordered_parts a b p q rows size of_a of_b products) of_rows of_columns len in
      let back = inverse-values K N d w x len_w inverse in
      interpolated_product K N d order off (of_list K a) (of_list K b) (of_list K x)
      (transform K (itself K) d a) (transform K (itself K) d b) w
      (transform-values K N d a short_a) (transform-values K N d b short_b) back.1 len_w
      (λ k l. item-tabulate (itself K) d.size _ k l)
      back.0 below
