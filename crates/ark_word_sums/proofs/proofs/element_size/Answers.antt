use Rattle.std.proofs.Common.{◌≡◌, ℕ, ◌^◌, ◌<◌, ◌≤◌, Option, None, Some, IfSome, IsNone, unwrap_or, refl, ◌∙◌, arith}
use Rattle.ark_bytes.specs.declared.compress.Compress.TheVariants.{Yes}
use Rattle.ark_word_sums.proofs.proofs.element_size.Goals as goal

-- a number below 2 ^ 64 is the one that is told, where one is told but past that
told_number : (told : Option ℕ) (r n size : ℕ) → r ≡ unwrap_or told 0 → IfSome told (λ k. k ≡ n) → (IsNone told → 2 ^ 64 ≤ n) → n ≡ size → size < 2 ^ 64 → r ≡ size
told_number None r n size gives some none is small = let large : 2 ^ 64 ≤ n = none refl in absurd (omega (arith, large, is, small))
told_number (Some k) r n size gives some none is small = gives ∙ some ∙ is

pub returns : goal.returns
returns g c =
    told_number c.serialized_size.result c.unwrap_or.result _ g.F.Field.element_size c.unwrap_or.ensures
    c.serialized_size.ensures.some c.serialized_size.ensures.none
    ((g.met.F.Field.elements_law Yes).lengths c.zero.result) c.requires
