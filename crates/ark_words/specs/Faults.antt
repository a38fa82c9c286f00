-- Which error a call answers.
use Rattle.std.specs.Prelude.{◌≡◌, ◌⊎◌}
use Rattle.ark_words.specs.declared.error.WordsError.{WordsError}
use Rattle.ark_words.specs.declared.error.WordsError.TheVariants.{Memory, Length, NotReduced, NoDomain, ZeroDivisor, EqualPoints, TooFew, NoCodeword}

-- the first of three conditions that doesn't hold has this error; memory may be refused where all of them hold
abbrev pub IsFault : (lengths reduced domain : Type 0) → WordsError → Type 0
IsFault lengths reduced domain Length = ¬ lengths
IsFault lengths reduced domain NotReduced = lengths × (¬ reduced)
IsFault lengths reduced domain NoDomain = lengths × reduced × (¬ domain)
IsFault lengths reduced domain Memory = lengths × reduced × domain
IsFault lengths reduced domain other = ⊥

-- and so of five, of which the last one is judged where memory isn't refused
abbrev pub IsWordFault : (lengths reduced domain enough codewords : Type 0) → WordsError → Type 0
IsWordFault lengths reduced domain enough codewords Length = ¬ lengths
IsWordFault lengths reduced domain enough codewords NotReduced = lengths × (¬ reduced)
IsWordFault lengths reduced domain enough codewords NoDomain = lengths × reduced × (¬ domain)
IsWordFault lengths reduced domain enough codewords TooFew = lengths × reduced × domain × (¬ enough)
IsWordFault lengths reduced domain enough codewords NoCodeword = lengths × reduced × domain × enough × (¬ codewords)
IsWordFault lengths reduced domain enough codewords Memory = lengths × reduced × domain × enough
IsWordFault lengths reduced domain enough codewords other = ⊥

-- this error, or that a number isn't below the modulus
abbrev pub IsRefusal : Type 0 → WordsError → WordsError → Type 0
IsRefusal reduced error result = (reduced × (result ≡ error)) ⊎ ((¬ reduced) × (result ≡ NotReduced))

-- the error of a call that asks for lengths and numbers alone
abbrev pub IsPlain : WordsError → Type 0
IsPlain Memory = Unit {0}
IsPlain Length = Unit {0}
IsPlain NotReduced = Unit {0}
IsPlain other = ⊥

-- the error of a call that asks for a domain too
abbrev pub IsOfDomains : WordsError → Type 0
IsOfDomains NoDomain = Unit {0}
IsOfDomains other = IsPlain other

-- the error of a call that asks for a divisor that isn't zero
abbrev pub IsOfDivision : WordsError → Type 0
IsOfDivision ZeroDivisor = Unit {0}
IsOfDivision other = IsPlain other

-- the error of a call that asks for points of which no two are equal
abbrev pub IsOfPoints : WordsError → Type 0
IsOfPoints EqualPoints = Unit {0}
IsOfPoints other = IsPlain other

-- that a number isn't below the modulus, else that two points are equal, and else that memory was refused
abbrev pub IsRefusalOfPoints : (reduced equal : Type 0) → WordsError → Type 0
IsRefusalOfPoints reduced equal NotReduced = ¬ reduced
IsRefusalOfPoints reduced equal EqualPoints = reduced × equal
IsRefusalOfPoints reduced equal Memory = reduced × (¬ equal)
IsRefusalOfPoints reduced equal other = ⊥
