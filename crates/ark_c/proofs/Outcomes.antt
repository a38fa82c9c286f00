-- Each outcome has a number of its own, and the number of a call tells what the call does over the field that a number names.
use Rattle.std.proofs.Common.{◌≡◌, ◌≢◌, ◌↔◌, ◌==◌, ◌≤◌, ℕ, Option, Some, None, Result, Ok, Err, OnOk, OnErr, IsNone, IsSomeAnd, if◌then◌else◌, refl, sym, ap, subst, ◌∙◌, rules}
use Rattle.ark_words.specs.declared.error.WordsError.{WordsError}
use Rattle.ark_words.specs.declared.error.WordsError.TheVariants.{Memory, Length, NotReduced, NoDomain, ZeroDivisor, EqualPoints, TooFew, NoCodeword}
use Rattle.ark_words.specs.Numbers.{Spelled}
use Rattle.ark_c.specs.Names.{field_named}
use Rattle.ark_c.specs.Statuses.{status_of}

-- a call's result
abbrev pub Outcome : Type 0
Outcome = Result (Unit {0}) WordsError

-- what a number stands for
abbrev answer_of : ℕ → Option Outcome
answer_of n =
    if n == 0 then Some (Ok tt)
    else if n == 1 then Some (Err Memory)
    else if n == 3 then Some (Err Length)
    else if n == 4 then Some (Err NotReduced)
    else if n == 5 then Some (Err NoDomain)
    else if n == 6 then Some (Err ZeroDivisor)
    else if n == 7 then Some (Err EqualPoints)
    else if n == 8 then Some (Err TooFew)
    else if n == 9 then Some (Err NoCodeword)
    else None

back : (answer : Option Outcome) → answer_of (status_of answer) ≡ answer
back None = refl
back (Some (Ok done)) = refl
back (Some (Err Memory)) = refl
back (Some (Err Length)) = refl
back (Some (Err NotReduced)) = refl
back (Some (Err NoDomain)) = refl
back (Some (Err ZeroDivisor)) = refl
back (Some (Err EqualPoints)) = refl
back (Some (Err TooFew)) = refl
back (Some (Err NoCodeword)) = refl

one_number : (a b : Option Outcome) → status_of a ≡ status_of b → a ≡ b
one_number a b e = sym (back a) ∙ ap answer_of e ∙ back b

some_same : (x y : Outcome) → ◌≡◌ {A = Option Outcome} (Some x) (Some y) → x ≡ y
some_same x y e = search rules

none_not_some : (x : Outcome) → ◌≡◌ {A = Option Outcome} None (Some x) → ⊥
none_not_some x e = search rules

-- ---- what a call over one field says of what it wrote and of its result

module _ {X : Type 0} (P : Spelled → X → Outcome → Type 0) (old new : X) where
  -- the answer over the field, where there is one
  pub record IsOver (field : Option Spelled) (answer : Option Outcome) : Type 0 where
    pub none : field ≡ None → (answer ≡ None) × (new ≡ old)
    pub some : (f : Spelled) → field ≡ Some f → (r : Outcome) × (answer ≡ Some r) × P f new r

  module _ {answer : Option Outcome} {status : ℕ} (e : status ≡ status_of answer) where
    pub told_done : (C : Spelled → Type 0) → ((f : Spelled) (r : Outcome) → P f new r → OnOk r (C f)) → (field : Option Spelled) → IsOver field answer → status ≡ 0 → IsSomeAnd field C
    told_done C says None is z = absurd (none_not_some (Ok tt) (sym (is.none refl).0 ∙ one_number answer (Some (Ok tt)) (sym e ∙ z)))
    told_done C says (Some f) is z =
        let found = is.some f refl in
        let same = some_same found.0 (Ok tt) (sym found.1 ∙ one_number answer (Some (Ok tt)) (sym e ∙ z)) in
        subst (λ r. OnOk r (C f)) same (says f found.0 found.2)

    pub told_kept : {D : Type 0} → (new ≡ old → D) → ((f : Spelled) (r : Outcome) → P f new r → OnErr r D) → (field : Option Spelled) → IsOver field answer → status ≢ 0 → D
    told_kept given says None is other = given (is.none refl).1
    told_kept {D} given says (Some f) is other =
        let found = is.some f refl in
        of_error found.0 (says f found.0 found.2) (λ z. other (e ∙ ap status_of found.1 ∙ z))
      where
        of_error : (r : Outcome) → OnErr r D → status_of (Some r) ≢ 0 → D
        of_error (Ok x) h some = absurd (some refl)
        of_error (Err x) h some = h

    pub told_no_field : (field : Option Spelled) → IsOver field answer → (status ≡ 2) ↔ IsNone field
    told_no_field None is = ((λ z. refl), (λ z. e ∙ ap status_of (is.none refl).0))
    told_no_field (Some f) is =
        let found = is.some f refl in
        ((λ z. absurd (none_not_some found.0 (sym (one_number answer None (sym e ∙ z)) ∙ found.1))), (λ h. absurd (search rules)))

    pub told_error : (x : WordsError) (C : Spelled → Type 0) → ((f : Spelled) (r : Outcome) → P f new r → (r ≡ Err x) ↔ C f) → (field : Option Spelled) → IsOver field answer
        → (status ≡ status_of (Some (Err x))) ↔ IsSomeAnd field C
    told_error x C says None is = ((λ z. absurd (none_not_some (Err x) (sym (is.none refl).0 ∙ one_number answer (Some (Err x)) (sym e ∙ z)))), (λ h. absurd h))
    told_error x C says (Some f) is =
        let found = is.some f refl in
        let here = says f found.0 found.2 in (
          (λ z. here.0 (some_same found.0 (Err x) (sym found.1 ∙ one_number answer (Some (Err x)) (sym e ∙ z)))),
          (λ h. e ∙ ap status_of (found.1 ∙ ap Some (here.1 h))),
        )

    -- where an error tells a condition, and not the other way
    pub told_only : (x : WordsError) (C : Spelled → Type 0) → ((f : Spelled) (r : Outcome) → P f new r → r ≡ Err x → C f) → (field : Option Spelled) → IsOver field answer
        → status ≡ status_of (Some (Err x)) → IsSomeAnd field C
    told_only x C says None is z = absurd (none_not_some (Err x) (sym (is.none refl).0 ∙ one_number answer (Some (Err x)) (sym e ∙ z)))
    told_only x C says (Some f) is z =
        let found = is.some f refl in
        says f found.0 found.2 (some_same found.0 (Err x) (sym found.1 ∙ one_number answer (Some (Err x)) (sym e ∙ z)))

    pub told_never : (x : WordsError) → ((f : Spelled) (r : Outcome) → P f new r → r ≢ Err x) → (field : Option Spelled) → IsOver field answer → status ≢ status_of (Some (Err x))
    told_never x says None is z = none_not_some (Err x) (sym (is.none refl).0 ∙ one_number answer (Some (Err x)) (sym e ∙ z))
    told_never x says (Some f) is z =
        let found = is.some f refl in
        says f found.0 found.2 (some_same found.0 (Err x) (sym found.1 ∙ one_number answer (Some (Err x)) (sym e ∙ z)))

    pub told_most : (most : ℕ) → 2 ≤ most → ((f : Spelled) (r : Outcome) → P f new r → status_of (Some r) ≤ most) → (field : Option Spelled) → IsOver field answer → status ≤ most
    told_most most two says None is = subst (λ n. n ≤ most) (sym (e ∙ ap status_of (is.none refl).0)) two
    told_most most two says (Some f) is =
        let found = is.some f refl in
        subst (λ n. n ≤ most) (sym (e ∙ ap status_of found.1)) (says f found.0 found.2)

-- the call over one field, and none
pub over_one : {X : Type 0} {P : Spelled → X → Outcome → Type 0} {old new after : X} {name known : ℕ} {f : Spelled} {answer : Option Outcome} {r : Outcome}
    → name ≡ known → field_named known ≡ Some f → answer ≡ Some r → new ≡ after → P f after r → IsOver P old new (field_named name) answer
over_one {X} {P} {old} {new} {after} {name} {known} {f} {answer} {r} same is answered written says = record {
  none = λ e. absurd (some_not_none (sym is ∙ ap field_named (sym same) ∙ e));
  some = λ other e. (
    r,
    answered,
    subst (λ n. P other n r) (sym written) (subst (λ o. P o after r) (one_field (sym is ∙ ap field_named (sym same) ∙ e)) says),
  );
}
  where
    some_not_none : {x : Spelled} → Some x ≡ None → ⊥
    some_not_none e = search rules

    one_field : {x y : Spelled} → Some x ≡ Some y → x ≡ y
    one_field e = search rules

pub over_no_field : {X : Type 0} {P : Spelled → X → Outcome → Type 0} {old new : X} {field : Option Spelled} {answer : Option Outcome} → field ≡ None → answer ≡ None → new ≡ old → IsOver P old new field answer
over_no_field is answered same = record { none = λ e. (answered, same); some = λ f e. absurd (search rules) }
