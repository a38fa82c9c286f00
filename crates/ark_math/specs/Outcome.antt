-- What calls answer where they fail.
use Rattle.std.specs.Prelude.{◌≡◌, ◌⊎◌, Result, IfErr}

-- the error, where there is one, is a or b
abbrev pub IsOkUnlessEither : {T E : Type 0} → Result T E → E → E → Type 0
IsOkUnlessEither r a b = IfErr r (λ e. (e ≡ a) ⊎ (e ≡ b))
