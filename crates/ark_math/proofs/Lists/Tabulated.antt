-- Lists made of a function of the index.
use Rattle.std.proofs.Common.{◌≡◌, ℕ, zero, suc, ◌+◌, ◌<◌, List, [], ◌∷◌, ◌++◌, length, get_or, sym, ◌∙◌, ap, refl, arith, zero-add}
use Rattle.ark_math.specs.Module.{ModuleOn, tabulate, tabulate_from, item}
use Rattle.std.proofs.lemmas.List.{ext_get_or}

length-tabulate_from : {M : Type 0} (i n : ℕ) (f : ℕ → M) → length (tabulate_from i n f) ≡ n
length-tabulate_from i zero f = refl
length-tabulate_from i (suc n) f = ap suc (length-tabulate_from (suc i) n f)

get_or-tabulate_from : {M : Type 0} (i n : ℕ) (f : ℕ → M) (k : ℕ) (d : M) → k < n → get_or (tabulate_from i n f) k d ≡ f (i + k)
get_or-tabulate_from i zero f k d l = absurd (omega arith)
get_or-tabulate_from i (suc n) f zero d l =
    let e : i ≡ i + 0 = omega arith in
    ap f e
get_or-tabulate_from i (suc n) f (suc k) d l =
    let e : suc i + k ≡ i + suc k = omega arith in
    get_or-tabulate_from (suc i) n f k d (omega arith) ∙ ap f e

pub length-tabulate : {M : Type 0} (n : ℕ) (f : ℕ → M) → length (tabulate n f) ≡ n
length-tabulate n f = length-tabulate_from 0 n f

pub get_or-tabulate : {M : Type 0} (n : ℕ) (f : ℕ → M) (i : ℕ) (d : M) → i < n → get_or (tabulate n f) i d ≡ f i
get_or-tabulate n f i d l = get_or-tabulate_from 0 n f i d l ∙ ap f (zero-add i)

pub item-tabulate : {F M : Type 0} (V : ModuleOn F M) (n : ℕ) (f : ℕ → M) (i : ℕ) → i < n → item V (tabulate n f) i ≡ f i
item-tabulate V n f i l = get_or-tabulate n f i V.zero l

-- a list is a listing where its items are
pub is_tabulated : {M : Type 0} (d : M) (xs : List M) (n : ℕ) (f : ℕ → M) → length xs ≡ n → ((i : ℕ) → i < n → get_or xs i d ≡ f i) → xs ≡ tabulate n f
is_tabulated d xs n f e h =
    ext_get_or d xs (tabulate n f) (e ∙ sym (length-tabulate n f))
    (λ i l. let b : i < n = rw e at l in h i b ∙ sym (get_or-tabulate n f i d b))

pub tabulate-same : {M : Type 0} (n : ℕ) (f g : ℕ → M) → ((i : ℕ) → i < n → f i ≡ g i) → tabulate n f ≡ tabulate n g
tabulate-same zero f g h = refl
tabulate-same (suc n) f g h = is_tabulated (f 0) (tabulate (suc n) f) (suc n) g (length-tabulate (suc n) f) (λ i l. get_or-tabulate (suc n) f i (f 0) l ∙ h i l)

tabulate_from-suc : {M : Type 0} (i n : ℕ) (f : ℕ → M) → tabulate_from (suc i) n f ≡ tabulate_from i n (λ k. f (suc k))
tabulate_from-suc i zero f = refl
tabulate_from-suc i (suc n) f = ap (λ t. f (suc i) ∷ t) (tabulate_from-suc (suc i) n f)

-- the first, and then the others
pub tabulate-suc : {M : Type 0} (n : ℕ) (f : ℕ → M) → tabulate (suc n) f ≡ f 0 ∷ tabulate n (λ k. f (suc k))
tabulate-suc n f = ap (λ t. f 0 ∷ t) (tabulate_from-suc 0 n f)

-- the first m, and then n more
pub tabulate_from-add : {M : Type 0} (i m n : ℕ) (f : ℕ → M) → tabulate_from i (m + n) f ≡ tabulate_from i m f ++ tabulate_from (i + m) n f
tabulate_from-add i zero n f =
    let e : 0 + n ≡ n = omega arith in
    let g : i ≡ i + 0 = omega arith in
    ap (λ t. tabulate_from i t f) e ∙ ap (λ t. tabulate_from t n f) g
tabulate_from-add i (suc m) n f =
    let e : suc m + n ≡ suc (m + n) = omega arith in
    let g : suc i + m ≡ i + suc m = omega arith in
    ap (λ t. tabulate_from i t f) e ∙ ap (λ t. f i ∷ t) (tabulate_from-add (suc i) m n f ∙ ap (λ t. tabulate_from (suc i) m f ++ tabulate_from t n f) g)

-- the others, and then the last
pub tabulate-push : {M : Type 0} (n : ℕ) (f : ℕ → M) → tabulate (n + 1) f ≡ tabulate n f ++ f n ∷ []
tabulate-push n f = tabulate_from-add 0 n 1 f ∙ ap (λ k. tabulate n f ++ f k ∷ []) (zero-add n)
