use Rattle.std.proofs.Common.{◌≡◌, ℕ, List, length, get_or, take, drop, ◌++◌, ◌+◌, ◌*◌, ◌/◌, ◌<◌, ap, sym, subst, ◌∙◌, arith, length-take-le, length-append, length-drop}
use Rattle.std.proofs.lemmas.List.{get_or-take, get_or_append_left}
use Rattle.ark_math.specs.Field.{FieldOn}
use Rattle.ark_math.proofs.Lists.Lists.{written_back}
use Rattle.ark_fft.specs.Halves.{ArePowers}
use Rattle.ark_fft.proofs.domain.radix2.tables.level_tables.Goals as goal

-- the length is kept as the front is written and as the rest is
length_kept : {X : Type 0} (xs front now : List X) (n h : ℕ) → length xs ≡ n → h < n + 1 → length front ≡ length (take h xs) → length now ≡ length (front ++ drop h xs) → length now ≡ n
length_kept xs front now n h len small kept same = same ∙ omega (arith, length-append front (drop h xs), length-drop h xs, length-take-le h xs (omega arith))

-- powers that are written in front stay there
powers_kept : {F : Type 0} (K : FieldOn F) (w : F) (xs front now : List F) (n h : ℕ) → length xs ≡ n → length now ≡ n → h < n + 1 → ArePowers K w (length (take h xs)) front → ((i : ℕ) → i < h → get_or now i K.zero ≡ get_or (front ++ drop h xs) i K.zero) → ArePowers K w h (take h now)
powers_kept K w xs front now n h len len_now small powers kept =
    let front_len : length (take h xs) ≡ h = length-take-le h xs (omega arith) in
    record {
      len = length-take-le h now (omega arith);
      powers = λ i l.
          get_or-take h now i K.zero l ∙ kept i l ∙ get_or_append_left front (drop h xs) K.zero i (omega (arith, powers.len)) ∙ powers.powers i (omega arith);
    }

pub returns-clause-len : goal.returns-clause-len
returns-clause-len g c =
    let h = c.args.n / 2 in
    let xs = c.as_mut_slice-xs.result.now in
    let now = c.continue_levels.new.xs in
    let len : length xs ≡ c.args.n = ap length c.as_mut_slice-xs.ensures.value ∙ omega (arith, c.in_ok-resize.ensures.len) in
    let kept : length now ≡ c.args.n = length_kept xs c.fill_with_powers.new.xs now c.args.n h len (omega arith) c.fill_with_powers.auto.xs c.continue_levels.auto.xs in
    ap length (written_back now _ c.resize.new.self.len (omega (arith, c.in_ok-resize.ensures.len))) ∙ kept

pub returns-clause-first : goal.returns-clause-first
returns-clause-first g c =
    let K = g.F.Field.field in
    let h = c.args.n / 2 in
    let xs = c.as_mut_slice-xs.result.now in
    let now = c.continue_levels.new.xs in
    let len : length xs ≡ c.args.n = ap length c.as_mut_slice-xs.ensures.value ∙ omega (arith, c.in_ok-resize.ensures.len) in
    let kept : length now ≡ c.args.n = length_kept xs c.fill_with_powers.new.xs now c.args.n h len (omega arith) c.fill_with_powers.auto.xs c.continue_levels.auto.xs in
    subst (λ ys. ArePowers K c.args.root h (take h ys)) (sym (written_back now _ c.resize.new.self.len (omega (arith, c.in_ok-resize.ensures.len))))
    (powers_kept K c.args.root xs c.fill_with_powers.new.xs now c.args.n h len kept (omega arith) c.fill_with_powers.ensures c.continue_levels.ensures.first)

pub returns-clause-seconds : goal.returns-clause-seconds
returns-clause-seconds g c =
    let K = g.F.Field.field in
    let h = c.args.n / 2 in
    let xs = c.as_mut_slice-xs.result.now in
    let now = c.continue_levels.new.xs in
    let len : length xs ≡ c.args.n = ap length c.as_mut_slice-xs.ensures.value ∙ omega (arith, c.in_ok-resize.ensures.len) in
    let kept : length now ≡ c.args.n = length_kept xs c.fill_with_powers.new.xs now c.args.n h len (omega arith) c.fill_with_powers.auto.xs c.continue_levels.auto.xs in
    subst (λ ys. (i : ℕ) → i < h → get_or ys (h + i) K.zero ≡ get_or ys (2 * i) K.zero) (sym (written_back now _ c.resize.new.self.len (omega (arith, c.in_ok-resize.ensures.len))))
    c.continue_levels.ensures.seconds
