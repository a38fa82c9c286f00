-- What the number of an outcome tells of a call over a field that a number names for sums.
use Rattle.std.proofs.Common.{◌≡◌, ◌≢◌, ◌↔◌, ◌⊎◌, inl, inr, ◌==◌, ◌≤◌, ℕ, Option, Some, None, Result, Ok, Err, OnOk, OnErr, IfErr, if◌then◌else◌, refl, sym, ap, subst, ◌∙◌, lit≤, rules}
use Rattle.ark_word_sums.specs.Faults.{IsOfProofs, IsOfSums}
use Rattle.ark_word_sums.specs.declared.error.SumsError.{SumsError}
use Rattle.ark_word_sums.specs.declared.error.SumsError.TheVariants.{Memory, Length, Addends, NotReduced, Refused}
use Rattle.ark_c.specs.SumFields.{sum_status_of}

abbrev pub Outcome : Type 0
Outcome = Result (Unit {0}) SumsError

-- what a number stands for
abbrev answer_of : ℕ → Option Outcome
answer_of n =
    if n == 0 then Some (Ok tt)
    else if n == 1 then Some (Err Memory)
    else if n == 3 then Some (Err Length)
    else if n == 4 then Some (Err NotReduced)
    else if n == 12 then Some (Err Addends)
    else if n == 13 then Some (Err Refused)
    else None

back : (answer : Option Outcome) → answer_of (sum_status_of answer) ≡ answer
back None = refl
back (Some (Ok done)) = refl
back (Some (Err Memory)) = refl
back (Some (Err Length)) = refl
back (Some (Err NotReduced)) = refl
back (Some (Err Addends)) = refl
back (Some (Err Refused)) = refl

one_number : (a b : Option Outcome) → sum_status_of a ≡ sum_status_of b → a ≡ b
one_number a b e = sym (back a) ∙ ap answer_of e ∙ back b

some_same : (x y : Outcome) → ◌≡◌ {A = Option Outcome} (Some x) (Some y) → x ≡ y
some_same x y e = search rules

none_not_some : (x : Outcome) → ◌≡◌ {A = Option Outcome} None (Some x) → ⊥
none_not_some x e = search rules

-- a field is named
module _ (status : ℕ) (r : Outcome) (e : status ≡ sum_status_of (Some r)) where
  told : (x : Outcome) → status ≡ sum_status_of (Some x) → r ≡ x
  told x z = some_same r x (one_number (Some r) (Some x) (sym e ∙ z))

  pub when_done : {D : Type 0} → OnOk r D → status ≡ 0 → D
  when_done {D} h z = subst (λ x. OnOk x D) (told (Ok tt) z) h

  pub when_not : {D : Type 0} → OnErr r D → status ≢ 0 → D
  when_not {D} h other = of_error r h (λ z. other (e ∙ z))
    where
      of_error : (x : Outcome) → OnErr x D → sum_status_of (Some x) ≢ 0 → D
      of_error (Ok x) h some = absurd (some refl)
      of_error (Err x) h some = h

  pub by_error : (x : SumsError) {C : Type 0} → ((r ≡ Err x) ↔ C) → (status ≡ sum_status_of (Some (Err x))) ↔ C
  by_error x says = ((λ z. says.0 (told (Err x) z)), (λ h. e ∙ ap (λ y. sum_status_of (Some y)) (says.1 h)))

  pub when_error : (x : SumsError) {C : Type 0} → (r ≡ Err x → C) → status ≡ sum_status_of (Some (Err x)) → C
  when_error x says z = says (told (Err x) z)

  pub never_unnamed : status ≢ 2
  never_unnamed z = none_not_some r (sym (one_number (Some r) None (sym e ∙ z)))

  -- the numbers of a prover's outcomes
  pub of_sums : IfErr r IsOfSums → (status ≤ 4) ⊎ (status ≡ 12)
  of_sums h = subst (λ n. (n ≤ 4) ⊎ (n ≡ 12)) (sym e) (numbers r h)
    where
      numbers : (x : Outcome) → IfErr x IsOfSums → (sum_status_of (Some x) ≤ 4) ⊎ (sum_status_of (Some x) ≡ 12)
      numbers (Ok done) h = inl (lit≤ tt)
      numbers (Err Memory) h = inl (lit≤ tt)
      numbers (Err Length) h = inl (lit≤ tt)
      numbers (Err NotReduced) h = inl (lit≤ tt)
      numbers (Err Addends) h = inr refl
      numbers (Err Refused) h = absurd h

  -- and of a verifier's
  pub of_proofs : IfErr r IsOfProofs → (status ≤ 4) ⊎ (status ≡ 13)
  of_proofs h = subst (λ n. (n ≤ 4) ⊎ (n ≡ 13)) (sym e) (numbers r h)
    where
      numbers : (x : Outcome) → IfErr x IsOfProofs → (sum_status_of (Some x) ≤ 4) ⊎ (sum_status_of (Some x) ≡ 13)
      numbers (Ok done) h = inl (lit≤ tt)
      numbers (Err Memory) h = inl (lit≤ tt)
      numbers (Err Length) h = inl (lit≤ tt)
      numbers (Err NotReduced) h = inl (lit≤ tt)
      numbers (Err Addends) h = absurd h
      numbers (Err Refused) h = inr refl
