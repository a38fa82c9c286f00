-- What the law of a field in words says of its width and its modulus.
use Rattle.std.proofs.Common.{◌≡◌, ℕ, ap}
use Rattle.ark_numbers.specs.Fields.{Known}
use Rattle.ark_words.specs.Numbers.{Spelled, in_words}

module _ (f : Spelled) (width : ℕ) (known : Known) (law : f ≡ in_words width known) where
  pub width_is : f.width ≡ width
  width_is = ap (λ s. s.width) law

  pub modulus_is : f.known.modulus ≡ known.modulus
  modulus_is = ap (λ s. s.known.modulus) law
