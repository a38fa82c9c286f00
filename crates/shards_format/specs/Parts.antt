-- How a piece spells the numbers of a block.
use Rattle.std.specs.Prelude.{◌≡◌, ◌≢◌, ◌==◌, ℕ, ◌+◌, ◌*◌, ◌<◌, ◌≤◌, suc, Bool, true, false, List, [], ◌∷◌, length, get_or, nat_le, if◌then◌else◌}
use Rattle.shards_format.specs.Stripes.{item}

-- a number that isn't among these
abbrev pub IsUnused : List ℕ → ℕ → Type 0
IsUnused xs mark = (s : ℕ) → s < length xs → get_or xs s 0 ≢ mark

-- the mark of numbers: 65536 where none of them is that, and otherwise the least number that none of them is
pub record IsMark (xs : List ℕ) (mark : ℕ) : Type 0 where
  pub bound : mark ≤ 65536
  pub unused : IsUnused xs mark
  pub highest : IsUnused xs 65536 → mark ≡ 65536
  pub least : (x : ℕ) → x < mark → IsUnused xs x → IsUnused xs 65536

-- how a number is written: the mark stands for 65536
abbrev pub shown : ℕ → ℕ → ℕ
shown mark x = if x == 65536 then mark else x

-- how what is written is read
abbrev pub read : ℕ → ℕ → ℕ
read mark x = if x == mark then 65536 else x

-- the number s that is read in a part with a mark
abbrev pub number_after_mark : List ℕ → ℕ → ℕ
number_after_mark part s = read (item part 0 + 65536 * item part 1) (item part (2 + s))

-- the number s that is read in a part of piece i
abbrev pub number_in : ℕ → ℕ → List ℕ → ℕ → ℕ
number_in k i part s = if nat_le k i then number_after_mark part s else item part s

-- two bytes for each number, all of which are below 2^16
pub record IsPlain (xs part : List ℕ) : Type 0 where
  -- they are bytes
  pub fits : (i : ℕ) → get_or part i 0 < 256
  pub len : length part ≡ 2 * length xs
  pub numbers : (s : ℕ) → s < length xs → item part s ≡ get_or xs s 0

-- four bytes of the mark, and then two bytes for each number
pub record IsMarked (xs part : List ℕ) : Type 0 where
  pub mark : ℕ
  pub is_mark : IsMark xs mark
  -- they are bytes
  pub fits : (i : ℕ) → get_or part i 0 < 256
  pub len : length part ≡ 4 + 2 * length xs
  pub mark_is : item part 0 + 65536 * item part 1 ≡ mark
  pub numbers : (s : ℕ) → s < length xs → item part (2 + s) ≡ shown mark (get_or xs s 0)

-- how many are true
abbrev pub count_true : List Bool → ℕ
count_true [] = 0
count_true (true ∷ xs) = suc (count_true xs)
count_true (false ∷ xs) = count_true xs

-- the part of piece i: the numbers are items at the first k places, and may be 2^16 at the others
pub record IsPart (k i : ℕ) (xs part : List ℕ) : Type 0 where
  pub plain : i < k → IsPlain xs part
  pub marked : k ≤ i → IsMarked xs part
