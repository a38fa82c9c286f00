-- The rounds of a sum-check. The first round binds the first variable, and so on.
use Rattle.std.specs.Prelude.{◌≡◌, ◌≢◌, ◌⊎◌, ℕ, suc, zero, List, [], ◌∷◌, ◌++◌, ◌+◌, ◌<◌, ◌≤◌, All, Contains, Vec, length, map}
use Rattle.std.specs.declared.alloc.Global.{Global}
use Rattle.ark_math.specs.Field.{FieldOn, natural}
use Rattle.ark_math.specs.Draws.{AreDrawn}
use Rattle.ark_math.specs.Univariate.{IsBelow, IsValue, difference, nothing, of_list}
use Rattle.ark_sum_check.specs.Cube.{SumOfProducts, bound_to, cube_sum, round_value, sum_value}
use Rattle.ark_sum_check.specs.declared.proof.Proof.{Proof}

-- a round: the values at 0, 1, .., d of the polynomial that was sent, and the challenge that was drawn after it, to which
-- the round's variable is bound
pub record Round (F : Type 0) : Type 0 where
  pub values : List F
  pub challenge : F

-- the values that were sent, each with the challenge after it
abbrev pub rounds_at : {F : Type 0} → List (Vec F Global) → List F → List (Round F)
rounds_at [] xs = []
rounds_at (v ∷ vs) [] = []
rounds_at (v ∷ vs) (x ∷ xs) = record { values = v.items; challenge = x } ∷ rounds_at vs xs

-- those of a proof
abbrev pub rounds_in : {F : Type 0} → Proof F → List (Round F)
rounds_in p = rounds_at p.rounds.items p.point.items

-- a polynomial below n with these n values at 0, 1, .., n - 1
pub record IsThrough {F : Type 0} (K : FieldOn F) (values : List F) (p : ℕ → F) : Type 0 where
  pub below : IsBelow K (length values) p
  pub takes : (i : ℕ) → i < length values → IsValue K p (natural K i) (of_list K values i)

-- y is the value at x of such a polynomial
abbrev pub IsValueThrough : {F : Type 0} → FieldOn F → List F → F → F → Type 0
IsValueThrough {F} K values x y = (p : ℕ → F) × IsThrough K values p × IsValue K p x y

-- 0, 1, .., n - 1 are different elements: 1, .., n - 1 aren't zero
abbrev pub AreDifferent : {F : Type 0} → FieldOn F → ℕ → Type 0
AreDifferent K n = (i : ℕ) → 0 < i → i < n → natural K i ≢ K.zero

-- d + 1 values, and at least two, of which those at 0 and 1 add up to the claim
pub record AddsUp {F : Type 0} (K : FieldOn F) (d : ℕ) (claim : F) (values : List F) : Type 0 where
  pub count : length values ≡ d + 1
  pub some : 2 ≤ length values
  pub sum : K.plus (of_list K values 0) (of_list K values 1) ≡ claim

-- such values, and the claim after the challenge x
pub record IsRoundOf {F : Type 0} (K : FieldOn F) (d : ℕ) (claim : F) (values : List F) (x next : F) : Type 0 where
  pub adds_up : AddsUp K d claim values
  pub value : IsValueThrough K values x next

-- such a round
abbrev pub IsRound : {F : Type 0} → FieldOn F → ℕ → F → Round F → F → Type 0
IsRound K d claim r next = IsRoundOf K d claim r.values r.challenge next

-- rounds that are accepted of a claim, and the last claim
abbrev pub AreAccepted : {F : Type 0} → FieldOn F → ℕ → F → List (Round F) → F → Type 0
AreAccepted K d claim [] last = claim ≡ last
AreAccepted {F} K d claim (r ∷ rs) last = (next : F) × IsRound K d claim r next × AreAccepted K d next rs last

-- the rounds before round i are accepted, and this one doesn't add up
abbrev pub IsRefusedAt : {F : Type 0} → FieldOn F → ℕ → F → List (Round F) → ℕ → Type 0
IsRefusedAt K d claim [] i = ⊥
IsRefusedAt K d claim (r ∷ rs) zero = AddsUp K d claim r.values → ⊥
IsRefusedAt {F} K d claim (r ∷ rs) (suc i) = (next : F) × IsRound K d claim r next × IsRefusedAt K d next rs i

-- what the first variables were bound to
abbrev pub challenges : {F : Type 0} → List (Round F) → List F
challenges rs = map (λ r. r.challenge) rs

-- rounds whose challenges came one after the other, each for its round's values, from one state of a challenger to another
abbrev pub AreChallenged : {F C : Type 0} → (C → List F → F → C → Type 0) → C → List (Round F) → C → Type 0
AreChallenged gives c rs end = AreDrawn (λ now r next. gives now r.values r.challenge next) c rs end

-- a challenger that has one challenge, and one state after it, for the values of a round
abbrev pub IsDetermined : {F C : Type 0} → (C → List F → F → C → Type 0) → Type 0
IsDetermined {F} {C} gives = (c : C) (values : List F) (x y : F) (a b : C) → gives c values x a → gives c values y b → (x ≡ y) × (a ≡ b)

-- ---- true rounds

-- a round's true polynomial, of degree d at most, by its values at 0, 1, .., d; m variables are left after it
pub record IsTrueRound {F : Type 0} (K : FieldOn F) (d m : ℕ) (s : SumOfProducts F) (values : List F) : Type 0 where
  pub count : length values ≡ d + 1
  pub sums : (i : ℕ) → i < d + 1 → of_list K values i ≡ round_value K m s (natural K i)

-- rounds of which each is true for the sum that the challenges before it have left
abbrev pub AreTrueRounds : {F : Type 0} → FieldOn F → ℕ → SumOfProducts F → List (Round F) → Type 0
AreTrueRounds K d s [] = Unit {0}
AreTrueRounds K d s (r ∷ rs) = IsTrueRound K d (length rs) s r.values × AreTrueRounds K d (bound_to K r.challenge s) rs

-- ---- what a false claim needs

-- the challenge x is a root of the difference of the polynomial that was sent by these values and the true one, and this
-- difference isn't zero, and of degree d at most
pub record IsUnlucky {F : Type 0} (K : FieldOn F) (d m : ℕ) (s : SumOfProducts F) (values : List F) (x : F) : Type 0 where
  pub sent : ℕ → F
  pub truth : ℕ → F
  pub is_sent : IsThrough K values sent
  pub is_true : (z : F) → IsValue K truth z (round_value K m s z)
  pub below : IsBelow K (d + 1) (difference K sent truth)
  pub apart : difference K sent truth ≢ nothing K
  pub root : IsValue K (difference K sent truth) x K.zero

-- different elements that are so are n at most
abbrev pub AtMost : {F : Type 0} → ℕ → (F → Type 0) → Type 0
AtMost {F} n P = (k : ℕ) (x : ℕ → F) → ((i j : ℕ) → i < j → j < k → x i ≢ x j) → ((i : ℕ) → i < k → P (x i)) → k ≤ n

-- one of the rounds is unlucky, for the sum that the challenges before it have left
abbrev pub HasUnlucky : {F : Type 0} → FieldOn F → ℕ → SumOfProducts F → List (Round F) → Type 0
HasUnlucky K d s [] = ⊥
HasUnlucky K d s (r ∷ rs) = IsUnlucky K d (length rs) s r.values r.challenge ⊎ HasUnlucky K d (bound_to K r.challenge s) rs

-- what follows from accepted rounds: the claim is the sum over the cube, or the last claim isn't the sum's value at the
-- challenges, or a round is unlucky
abbrev pub IsSound : {F : Type 0} → FieldOn F → ℕ → F → List (Round F) → F → SumOfProducts F → Type 0
IsSound K d claim rs last s = (claim ≡ cube_sum K (length rs) s) ⊎ (last ≢ sum_value K s (challenges rs)) ⊎ HasUnlucky K d s rs

-- what is left when the first variables are bound to these elements
abbrev pub left_after : {F : Type 0} → FieldOn F → List F → SumOfProducts F → SumOfProducts F
left_after K [] s = s
left_after K (x ∷ xs) s = left_after K xs (bound_to K x s)

-- one of the rounds: d elements at most are unlucky for its values and the challenges before it, and its own challenge is
-- one of them
pub record HasOneOfFew {F : Type 0} (K : FieldOn F) (d : ℕ) (s : SumOfProducts F) (rs : List (Round F)) : Type 0 where
  pub before : List (Round F)
  pub round : Round F
  pub after : List (Round F)
  pub is : rs ≡ before ++ round ∷ after
  pub few : AtMost d (IsUnlucky K d (length after) (left_after K (challenges before) s) round.values)
  pub unlucky : IsUnlucky K d (length after) (left_after K (challenges before) s) round.values round.challenge

-- ---- strategies

-- what a prover sends: the values after the challenges so far
abbrev pub Strategy : Type 0 → Type 0
Strategy F = List F → List F

-- its rounds at these challenges
abbrev pub rounds_of : {F : Type 0} → Strategy F → List F → List (Round F)
rounds_of sends [] = []
rounds_of sends (x ∷ xs) = record { values = sends []; challenge = x } ∷ rounds_of (λ before. sends (x ∷ before)) xs

-- m challenges, each one of these choices
pub record AreChosen {F : Type 0} (choices : List F) (m : ℕ) (xs : List F) : Type 0 where
  pub count : length xs ≡ m
  pub chosen : All (Contains choices) xs

-- at these challenges its rounds are accepted of the claim, and the last claim is the true value
abbrev pub IsBelieved : {F : Type 0} → FieldOn F → ℕ → F → Strategy F → SumOfProducts F → List F → Type 0
IsBelieved K d claim sends s xs = AreAccepted K d claim (rounds_of sends xs) (sum_value K s xs)
