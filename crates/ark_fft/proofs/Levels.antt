-- One level of a transform of 2 ^ n items: its butterflies, and the transforms of the halves.
use Rattle.std.proofs.Common.{◌≡◌, ℕ, ◌-◌, ◌<◌, ◌≤◌, ◌^◌, ◌++◌, List, length, get_or, map, ◌∙◌, ap₂}
use Rattle.ark_math.specs.Field.{FieldOn}
use Rattle.ark_math.specs.Module.{ModuleOn, item}
use Rattle.ark_math_transforms.specs.BitReversal.{reversed}
use Rattle.ark_math_transforms.proofs.Transforms.Places.{dft_at}
use Rattle.ark_fft.specs.Halves.{IsHalfTable}

-- a butterfly of a decimation in frequency: the sum, and the difference times the twiddle factor
pub record IsButterfly {F M : Type 0} (V : ModuleOn F M) (twiddle : F) (x y added taken : M) : Type 0 where
  pub sum : added ≡ V.plus x y
  pub difference : taken ≡ V.scale twiddle (V.plus x (V.negated y))

-- a butterfly of a decimation in time: y times the twiddle factor, added to x and taken from it
pub record IsJoin {F M : Type 0} (V : ModuleOn F M) (twiddle : F) (x y added taken : M) : Type 0 where
  pub sum : added ≡ V.plus x (V.scale twiddle y)
  pub difference : taken ≡ V.plus x (V.negated (V.scale twiddle y))

module _ {F M : Type 0} (V : ModuleOn F M) {twiddle twiddle1 : F} {x y x1 y1 added taken : M} where
  -- the same of equal items and an equal twiddle factor
  pub same_butterfly : twiddle ≡ twiddle1 → x ≡ x1 → y ≡ y1 → IsButterfly V twiddle x y added taken → IsButterfly V twiddle1 x1 y1 added taken
  same_butterfly t a b of = record {
    sum = of.sum ∙ ap₂ V.plus a b;
    difference = of.difference ∙ ap₂ V.scale t (ap₂ (λ u v. V.plus u (V.negated v)) a b);
  }

  pub same_join : twiddle ≡ twiddle1 → x ≡ x1 → y ≡ y1 → IsJoin V twiddle x y added taken → IsJoin V twiddle1 x1 y1 added taken
  same_join t a b of = record {
    sum = of.sum ∙ ap₂ V.plus a (ap₂ V.scale t b);
    difference = of.difference ∙ ap₂ (λ u v. V.plus u (V.negated v)) a (ap₂ V.scale t b);
  }

module _ {F M : Type 0} (K : FieldOn F) (V : ModuleOn F M) where
  -- the transform at w of the 2 ^ n items of f, in bit-reversed order
  abbrev pub AreReversed : ℕ → F → (ℕ → M) → (ℕ → M) → Type 0
  AreReversed n w f r = (p : ℕ) → p < 2 ^ n → r p ≡ dft_at K V (2 ^ n) w f (reversed n p)

  -- the first places of the transform at w of size items of f, in order
  abbrev pub AreTransformed : ℕ → ℕ → F → (ℕ → M) → (ℕ → M) → Type 0
  AreTransformed places size w f r = (p : ℕ) → p < places → r p ≡ dft_at K V size w f p

module _ {F M X : Type 0} (K : FieldOn F) (V : ModuleOn F M) (m : X → M) where
  -- the transform at w of the items of a list, in order
  abbrev pub IsTransformed : F → List X → List X → Type 0
  IsTransformed w old now = AreTransformed K V (length old) (length old) w (item V (map m old)) (item V (map m now))

  -- a level of a decimation in frequency: xs is lo and hi, and the butterflies make them lo1 and hi1
  pub record IsSplitLevel (n : ℕ) (w : F) (twiddles : List F) (xs lo hi lo1 hi1 : List X) : Type 0 where
    pub some : 0 < n
    pub table : IsHalfTable K w twiddles
    pub enough : length twiddles ≡ 2 ^ (n - 1)
    pub halves : xs ≡ lo ++ hi
    pub len_lo : length lo ≡ 2 ^ (n - 1)
    pub butterflies : (i : ℕ) → i < length lo → IsButterfly V (get_or twiddles i K.zero) (item V (map m lo) i) (item V (map m hi) i) (item V (map m lo1) i) (item V (map m hi1) i)

  -- a level of a decimation in time, of 2 ^ e items each in as many places: the butterflies make lo and hi lo1 and hi1
  pub record IsJoinedLevel (n e : ℕ) (w : F) (twiddles : List F) (lo hi lo1 hi1 : List X) : Type 0 where
    pub some : 0 < e
    pub within : e ≤ n
    pub table : IsHalfTable K w twiddles
    pub enough : length twiddles ≡ 2 ^ (n - 1)
    pub len_lo : length lo ≡ 2 ^ (n - 1)
    pub len_lo1 : length lo1 ≡ 2 ^ (n - 1)
    pub butterflies : (i : ℕ) → i < length lo → IsJoin V (get_or twiddles i K.zero) (item V (map m lo) i) (item V (map m hi) i) (item V (map m lo1) i) (item V (map m hi1) i)
