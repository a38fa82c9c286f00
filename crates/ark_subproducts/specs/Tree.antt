-- Subproduct trees: the product of x - z over points and over halves of them, and the scaled remainders of a polynomial.
use Rattle.std.specs.Prelude.{◌≡◌, ℕ, suc, ◌+◌, ◌-◌, ◌/◌, ◌<◌, ◌≤◌, List, [], ◌∷◌, length, take, drop, Option, Some, None, Vec}
use Rattle.std.specs.declared.alloc.Global.{Global}
use Rattle.ark_math.specs.Field.{FieldOn, natural}
use Rattle.ark_math_polynomials.specs.Linear.{linear_factor}
use Rattle.ark_math.specs.Univariate.{IsBelow, IsValue, added, nothing, of_list, product, scaled}
use Rattle.ark_bit_reversed.specs.Blocks.{AreFirstValues, IsPowerOfTwo, size_of}
use Rattle.ark_math_polynomials.specs.Nodes.{nodes}
use Rattle.ark_subproducts.specs.declared.blocks.Factors.{Factors}
use Rattle.ark_subproducts.specs.declared.few.FewProducts.{FewProducts}
use Rattle.ark_subproducts.specs.declared.halves.Part.{Part}
use Rattle.ark_subproducts.specs.declared.multiple.Multiple.{Multiple}
use Rattle.ark_subproducts.specs.declared.tree.Leaf.{Leaf}
use Rattle.ark_subproducts.specs.declared.tree.Leaf.TheVariants.{Plain, Blocks}
use Rattle.ark_subproducts.specs.declared.tree.Tree.{Tree}
use Rattle.ark_subproducts.specs.declared.tree.Tree.TheVariants.{Few, Halves'}

-- s is a scaled remainder of p by m, which is of degree n, as far as its coefficients before end tell: what is left of m without a
-- root, times s, has p's value at that root as its coefficient before end
abbrev pub IsScaledRemainderBefore : {F : Type 0} → FieldOn F → ℕ → ℕ → (ℕ → F) → (ℕ → F) → (ℕ → F) → Type 0
IsScaledRemainderBefore {F} K end n m p s = (c : ℕ → F) (z : F) → IsBelow K n c → m ≡ product K c (linear_factor K z) → IsValue K p z (product K c s (end - 1))

-- the scaled remainder below n: the coefficients of (p mod m) / m as a power series in 1 / x, the last one first
abbrev pub IsScaledRemainder : {F : Type 0} → FieldOn F → ℕ → (ℕ → F) → (ℕ → F) → (ℕ → F) → Type 0
IsScaledRemainder K n m p s = IsScaledRemainderBefore K n n m p s

-- the sum of w 0, w 1, .., each times the product of x - z for the others of a list
abbrev pub weighed : {F : Type 0} → FieldOn F → List F → (ℕ → F) → ℕ → F
weighed K [] w = nothing K
weighed K (z ∷ zs) w = added K (scaled K (w 0) (nodes K zs)) (product K (linear_factor K z) (weighed K zs (λ i. w (suc i))))

-- the formal derivative
abbrev pub derived : {F : Type 0} → FieldOn F → (ℕ → F) → ℕ → F
derived K a i = K.times (natural K (suc i)) (a (suc i))

-- of degree n, with one as the leading coefficient
pub record IsMonic {F : Type 0} (K : FieldOn F) (n : ℕ) (a : ℕ → F) : Type 0 where
  pub leading : a n ≡ K.one
  pub below : IsBelow K (n + 1) a

-- the products over few points and over both halves of them
pub record AreFewProducts {F : Type 0} (K : FieldOn F) (points : List F) (p : FewProducts F) : Type 0 where
  pub whole : of_list K p.whole ≡ nodes K points
  pub low : of_list K p.low.items ≡ nodes K (take (length points / 2) points)
  pub low_count : length p.low.items ≡ length points / 2 + 1
  pub high : of_list K p.high.items ≡ nodes K (drop (length points / 2) points)
  pub high_count : length p.high.items ≡ length points - length points / 2 + 1

-- the values of both halves' products over the first elements of a table, of which there are as many as told
pub record HaveBlockValues {F : Type 0} (K : FieldOn F) (roots : List F) (count : ℕ) (points v w : List F) : Type 0 where
  pub many : 2 < length points
  pub low : AreFirstValues K roots count (nodes K (take (length points / 2) points)) v
  pub high : AreFirstValues K roots count (nodes K (drop (length points / 2) points)) w

-- the products over these points and over the halves of each part, with values over this many elements, and half as many for
-- each half
abbrev pub IsBlockTreeOver : {F : Type 0} → FieldOn F → List F → ℕ → List F → Tree (FewProducts F) (List F) (Vec F Global) → Type 0
IsBlockTreeOver K roots count points (Few p) = AreFewProducts K points p
IsBlockTreeOver K roots count points (Halves' p a low v b high w) =
    (of_list K p ≡ nodes K points)
    × HaveBlockValues K roots count points v.items w.items
    × IsBlockTreeOver K roots (count / 2) (take (length points / 2) points) low
    × IsBlockTreeOver K roots (count / 2) (drop (length points / 2) points) high

-- a list represents a for such a tree: by its coefficients, or where the tree has halves by its values over as many elements as told
abbrev pub Represents : {F : Type 0} → FieldOn F → List F → Tree (FewProducts F) (List F) (Vec F Global) → ℕ → (ℕ → F) → List F → Type 0
Represents K roots (Few p) count a c = of_list K c ≡ a
Represents K roots (Halves' p q low v b high w) count a c = AreFirstValues K roots count a c

-- the lengths of such lists, for a below n
abbrev pub HasRoom : {F : Type 0} → Tree (FewProducts F) (List F) (Vec F Global) → ℕ → ℕ → ℕ → Type 0
HasRoom (Few p) n count len = len ≤ n
HasRoom (Halves' p q low v b high w) n count len = len ≡ count

-- such a tree has halves
abbrev pub IsHalved : {F : Type 0} → Tree (FewProducts F) (List F) (Vec F Global) → Type 0
IsHalved (Few p) = ⊥
IsHalved (Halves' p q low v b high w) = Unit

-- where the last coefficients of what such a list gives may end: at n, and where the tree has halves also after it
abbrev pub IsEnd : {F : Type 0} → Tree (FewProducts F) (List F) (Vec F Global) → ℕ → ℕ → ℕ → Type 0
IsEnd (Few p) n count end = end ≡ n
IsEnd (Halves' p q low v b high w) n count end = (n ≤ end) × (end ≤ count)

-- coefficients of the product over points, one more than these
pub record IsProductOver {F : Type 0} (K : FieldOn F) (points coeffs : List F) : Type 0 where
  pub is : of_list K coeffs ≡ nodes K points
  pub len : length coeffs ≡ length points + 1

-- so many elements of a table, a power of two, with room for the points
pub record IsPart {F : Type 0} (part : Part F) : Type 0 where
  pub power : IsPowerOfTwo part.count
  pub within : part.count ≤ size_of part.blocks.now
  pub room : length part.points.now ≤ part.count

-- these of a part's points, with half of its elements
pub record IsHalfOf {F : Type 0} (part : Part F) (own : List F) (half : Part F) : Type 0 where
  pub blocks : half.blocks.now ≡ part.blocks.now
  pub points : half.points.now ≡ own
  pub count : half.count ≡ part.count / 2

-- the values of a at a part's elements
abbrev pub AreValuesOver : {F : Type 0} → FieldOn F → Part F → (ℕ → F) → List F → Type 0
AreValuesOver K part a v = AreFirstValues K part.blocks.now part.count a v

-- a tree over a part's points, with values over its elements
abbrev pub IsTreeOfPart : {F : Type 0} → FieldOn F → Part F → Tree (FewProducts F) (List F) (Vec F Global) → Type 0
IsTreeOfPart K part tree = IsBlockTreeOver K part.blocks.now part.count part.points.now tree

-- what such a tree can be given: a list of the length that it takes, and where it ends
pub record IsGivenTo {F : Type 0} (part : Part F) (tree : Tree (FewProducts F) (List F) (Vec F Global)) (given : Multiple F) : Type 0 where
  pub room : HasRoom tree (length part.points.now) part.count (length given.items.items)
  pub end : IsEnd tree (length part.points.now) part.count given.end

-- what is given to such a tree is a
pub record RepresentsMultiple {F : Type 0} (K : FieldOn F) (part : Part F) (tree : Tree (FewProducts F) (List F) (Vec F Global)) (given : Multiple F) (a : ℕ → F) : Type 0 where
  pub own : ℕ → F
  pub below : IsBelow K given.end own
  pub represents : Represents K part.blocks.now tree part.count own given.items.items
  pub multiple : scaled K given.scale own ≡ a

-- twice as many values of a factor and of what is given as a part has elements, with a place for each of its points
pub record HasMiddle {F : Type 0} (part : Part F) (others : List F) (given : Multiple F) : Type 0 where
  pub within : part.count + part.count ≤ size_of part.blocks.now
  pub factor : length others ≡ part.count + part.count
  pub items : length given.items.items ≡ part.count + part.count
  pub start : length part.points.now ≤ given.end
  pub end : given.end ≤ part.count + part.count

-- t has the coefficients of a product before the end of what is given, as many as a part has points; the product is so short
-- that as many values as the part's elements twice give these
pub record IsMiddle {F : Type 0} (K : FieldOn F) (part : Part F) (given : Multiple F) (whole t : ℕ → F) : Type 0 where
  pub short : IsBelow K (given.end - length part.points.now + (part.count + part.count)) whole
  pub below : IsBelow K (length part.points.now) t
  pub items : (i : ℕ) → i < length part.points.now → t i ≡ whole (given.end - length part.points.now + i)

-- values of f and of the factor a, over as many elements of a table
pub record AreFactors {F : Type 0} (K : FieldOn F) (table : List F) (both : Factors F) (f a : ℕ → F) : Type 0 where
  pub own : AreFirstValues K table (length both.values.items) f both.values.items
  pub factor : AreFirstValues K table (length both.values.items) a both.factor.now

-- the product over these points, with a tree of products by a table of as many roots, or with the products over both halves
abbrev pub IsTreeOver : {F : Type 0} → FieldOn F → List F → Tree (Leaf F) (List F) Unit → Type 0
IsTreeOver K points (Few (Plain p)) = of_list K p ≡ nodes K points
IsTreeOver K points (Few (Blocks roots tree)) = (length points ≤ size_of roots) × IsBlockTreeOver K roots (size_of roots) points tree.value
IsTreeOver K points (Halves' p a low v b high w) =
    (1 < length points)
    × (of_list K p ≡ nodes K points)
    × IsTreeOver K (take (length points / 2) points) low
    × IsTreeOver K (drop (length points / 2) points) high

-- what is known of a polynomial before its values at n elements of a table are found: no more coefficients than that, or its
-- values at the first of these elements, at least half as many as coefficients
abbrev pub IsBegun : {F : Type 0} → FieldOn F → List F → ℕ → List F → Option (Vec F Global) → Type 0
IsBegun K table n coeffs None = length coeffs ≤ n
IsBegun K table n coeffs (Some v) =
    IsPowerOfTwo (length v.items) × (length v.items ≤ n) × (length coeffs ≤ length v.items + length v.items)
    × AreFirstValues K table (length v.items) (of_list K coeffs) v.items
