-- Lists that are read as rows, as loops fill them.
use Rattle.std.proofs.Common.{◌≡◌, ◌≢◌, ℕ, ◌+◌, ◌*◌, ◌<◌, ◌≤◌, List, [], ◌∷◌, ◌++◌, length, get_or, set, take, drop, map, sym, ◌∙◌, ap, arith, subst, ⊎_elim, length-take-le, length-drop}
use Rattle.std.proofs.lemmas.Bool.{cases_eq}
use Rattle.std.proofs.lemmas.List.{length-map, get_or-take, get_or-drop, map-append, drop-map}
use Rattle.std.proofs.lemmas.Nat.{mul-add-lt}
use Rattle.std.specs.List.{take-map}
use Rattle.ark_math.specs.Module.{ModuleOn, item, tabulate}
use Rattle.ark_math.proofs.Lists.Lists.{read_front, read_back, written_same, written_other}
use Rattle.ark_math.proofs.Lists.Tabulated.{is_tabulated, item-tabulate, tabulate-same, tabulate-push}
use Rattle.ark_fft.proofs.Parts.{columns_differ, rows_differ}
use Rattle.ark_fft_parts.specs.Parts.{across, column, row}

module _ {F M X : Type 0} (V : ModuleOn F M) (m : X → M) where
  -- one more item of a listing
  pub taken_more : (f : ℕ → M) (xs : List X) (i : ℕ) (x : X) → map m xs ≡ tabulate i f → m x ≡ f i → map m (xs ++ x ∷ []) ≡ tabulate (i + 1) f
  taken_more f xs i x before here =
      map-append m xs (x ∷ []) ∙ (ap (λ t. t ++ m x ∷ []) before ∙ (ap (λ t. tabulate i f ++ t ∷ []) here ∙ sym (tabulate-push i f)))

  -- the items of a row, as a slice of the list
  pub row_taken : (xs ys : List X) (a c k : ℕ) → a * c + c ≤ length xs → k ≡ c → ys ≡ take c (take k (drop (a * c) xs)) → map m ys ≡ row V c (map m xs) a
  row_taken xs ys a c k within whole is =
      let p = a * c in
      let rest : c ≤ length (drop p xs) = omega (arith, length-drop p xs) in
      let first : length (take k (drop p xs)) ≡ c = ap (λ t. length (take t (drop p xs))) whole ∙ length-take-le c (drop p xs) rest in
      let len : length ys ≡ c = ap length is ∙ length-take-le c (take k (drop p xs)) (omega arith) in
      is_tabulated V.zero (map m ys) c (λ j. item V (map m xs) (p + j)) (length-map ys m ∙ len)
      (λ j l.
      ap (λ t. get_or (map m t) j V.zero) is
      ∙ (ap (λ t. get_or t j V.zero) (sym (take-map m c (take k (drop p xs))))
      ∙ (get_or-take c (map m (take k (drop p xs))) j V.zero l
      ∙ (ap (λ t. get_or t j V.zero) (sym (take-map m k (drop p xs)))
      ∙ (get_or-take k (map m (drop p xs)) j V.zero (omega arith)
      ∙ (ap (λ t. get_or t j V.zero) (sym (drop-map m p xs))
      ∙ get_or-drop p (map m xs) j V.zero))))))

  -- the rows of a list with one more behind it
  pub row_front : (xs ys : List X) (c a k : ℕ) → length xs ≡ a * c → k < a → row V c (map m (xs ++ ys)) k ≡ row V c (map m xs) k
  row_front xs ys c a k len l =
      tabulate-same c _ _
      (λ j b. let place = mul-add-lt k c j a l b in read_front m V.zero xs ys (k * c + j) (omega (arith, place)))

  pub row_back : (xs ys : List X) (c a : ℕ) → length xs ≡ a * c → length ys ≡ c → row V c (map m (xs ++ ys)) a ≡ map m ys
  row_back xs ys c a len size =
      sym (is_tabulated V.zero (map m ys) c (λ j. item V (map m (xs ++ ys)) (a * c + j)) (length-map ys m ∙ size)
      (λ j l. sym (read_back m V.zero xs ys (a * c) j len)))

  -- column j written down to before row i, and the other columns as they were
  pub record IsFilled (count j i : ℕ) (items old now : List X) : Type 0 where
    pub done : (k : ℕ) → k < i → item V (map m now) (k * count + j) ≡ item V (map m items) k
    pub others : (k c : ℕ) → c < count → c ≢ j → item V (map m now) (k * count + c) ≡ item V (map m old) (k * count + c)

  pub filled_more : (count j i : ℕ) (items old now : List X) (x : X) → j < count → i * count + j < length now → m x ≡ item V (map m items) i → IsFilled count j i items old now → IsFilled count j (i + 1) items old (set now (i * count + j) x)
  filled_more count j i items old now x within place here before = record {
    done = λ k l. ⊎_elim
        (λ (e : k ≡ i). subst (λ t. item V (map m (set now (i * count + j) x)) (t * count + j) ≡ item V (map m items) t) (sym e) (written_same m V.zero now (i * count + j) x place ∙ here))
        (λ (ne : k ≢ i). written_other m V.zero now (i * count + j) (k * count + j) x (rows_differ count i j k j within within ne) ∙ before.done k (omega arith))
        (cases_eq k i);
    others = λ k c l ne. written_other m V.zero now (i * count + j) (k * count + c) x (columns_differ count i j k c within l ne) ∙ before.others k c l ne;
  }

  pub filled_column : (count j n : ℕ) (items old now : List X) → length items ≡ n → IsFilled count j n items old now → column V (length items) count (map m now) j ≡ map m items
  filled_column count j n items old now len filled =
      sym (is_tabulated V.zero (map m items) (length items) (λ i. item V (map m now) (i * count + j)) (length-map items m)
      (λ i l. sym (filled.done i (subst (λ k. i < k) len l))))

  pub other_columns : (count j n r : ℕ) (items old now : List X) → IsFilled count j n items old now → (k : ℕ) → k < count → k ≢ j → column V r count (map m now) k ≡ column V r count (map m old) k
  other_columns count j n r items old now filled k l ne = tabulate-same r _ _ (λ i b. filled.others i k l ne)

  -- one more column made, and the others as they were
  pub more_columns : (P : List M → List M → Type 0) (r count j : ℕ) (block made next list : List X) → j < count → ((k : ℕ) → k < j → P (column V r count (map m block) k) (column V r count (map m made) k)) → P (column V r count (map m block) j) (map m list) →
      column V r count (map m next) j ≡ map m list → ((k : ℕ) → k < count → k ≢ j → column V r count (map m next) k ≡ column V r count (map m made) k) → (k : ℕ) → k < j + 1 → P (column V r count (map m block) k) (column V r count (map m next) k)
  more_columns P r count j block made next list within before here is others k l =
      ⊎_elim
      (λ (e : k ≡ j).
      let there : P (column V r count (map m block) j) (column V r count (map m next) j) = subst (P (column V r count (map m block) j)) (sym is) here in
      subst (λ t. P (column V r count (map m block) t) (column V r count (map m next) t)) (sym e) there)
      (λ (ne : k ≢ j). subst (P (column V r count (map m block) k)) (sym (others k (omega arith) ne)) (before k (omega arith)))
      (cases_eq k j)

  -- one more row behind the others
  pub more_rows : (P : ℕ → List M → List M → Type 0) (c a : ℕ) (block made list : List X) → length made ≡ a * c → length list ≡ c → ((k : ℕ) → k < a → P k (row V c (map m block) k) (row V c (map m made) k)) → P a (row V c (map m block) a) (map m list) → (k : ℕ) → k < a + 1 → P k (row V c (map m block) k) (row V c (map m (made ++ list)) k)
  more_rows P c a block made list len size before here k l =
      ⊎_elim
      (λ (e : k ≡ a).
      let there : P a (row V c (map m block) a) (row V c (map m (made ++ list)) a) = subst (P a (row V c (map m block) a)) (sym (row_back made list c a len size)) here in
      subst (λ t. P t (row V c (map m block) t) (row V c (map m (made ++ list)) t)) (sym e) there)
      (λ (ne : k ≢ a). let less : k < a = omega arith in subst (P k (row V c (map m block) k)) (sym (row_front made list c a k len less)) (before k less))
      (cases_eq k a)

-- item i of each column of a list is its row i
pub across_columns : {F M : Type 0} (V : ModuleOn F M) (r c i : ℕ) (xs : List M) → i < r → across V c (column V r c xs) i ≡ row V c xs i
across_columns V r c i xs l = tabulate-same c _ _ (λ j b. item-tabulate V r (λ k. item V xs (k * c + j)) i l)
