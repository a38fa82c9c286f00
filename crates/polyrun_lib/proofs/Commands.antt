-- Words that are a command, words that are none, and what may be written for them.
use Rattle.std.proofs.Common.{◌≡◌, ℕ, ◌-◌, ◌<◌, ◌≤◌, List, [], ◌∷◌, length, get_or, map, take, drop, inl, inr, refl, sym, ap, ap₂, subst, ◌∙◌, arith, eqb, false}
use Rattle.std.specs.Prelude.{Option, Some, None, IfNone, codes}
use Rattle.std.proofs.lemmas.Bool.{eqb-false}
use Rattle.std.proofs.lemmas.List.{take_all}
use Rattle.polyrun_lib.specs.declared.command.Direction.{Direction}
use Rattle.polyrun_lib.specs.declared.command.Direction.TheVariants.{Forward, Inverse}
use Rattle.ark_traits.specs.declared.error.PolyError.{PolyError}
use Rattle.polyrun_lib.specs.Lines.{refusal_line_of, usage_text}
use Rattle.ark_numbers.specs.Fields.{Known}
use Rattle.polyrun_lib.specs.Answer.{IsCommand, MayAnswer}
use Rattle.polyrun_lib.specs.Outcome.{MayRefuse}
use Rattle.polyrun_lib.specs.Commands.{Command, transform_of, product_of, division_of, value_of, extension_of, size_for, transform_name, command_name, IsNoTransform, IsNoExtension, AreTwoLists, AreEvaluated, Takes, Reads, IsNoCommand}

pub IfNone-weaker : {T : Type 0} (o : Option T) {P Q : Type 0} → IfNone o P → (P → Q) → IfNone o Q
IfNone-weaker None p f = f p
IfNone-weaker (Some x) p f = tt

-- ---- the items of a list

pub map-first : {A B : Type 0} (f : A → B) (xs : List A) (x : A) → 0 < length xs → x ≡ get_or xs 0 x → map f xs ≡ f x ∷ map f (take (length xs - 1) (drop 1 xs))
map-first f [] x some e = absurd (omega arith)
map-first f (y ∷ ys) x some e = ap₂ (λ t rest. f t ∷ map f rest) (sym e) (sym (take_all (length (y ∷ ys) - 1) ys (omega arith)))

pub map-one : {A B : Type 0} (f : A → B) (xs : List A) (x : A) → 1 ≤ length xs → length xs < 2 → x ≡ get_or xs 0 x → map f xs ≡ f x ∷ []
map-one f [] x least most e = absurd (omega arith)
map-one f (y ∷ []) x least most e = ap (λ t. f t ∷ []) (sym e)
map-one f (y ∷ z ∷ xs) x least most e = absurd (omega arith)

pub map-two : {A B : Type 0} (f : A → B) (xs : List A) (x y : A) → 2 ≤ length xs → length xs < 3 → x ≡ get_or xs 0 x → y ≡ get_or xs 1 y → map f xs ≡ f x ∷ f y ∷ []
map-two f [] x y least most d e = absurd (omega arith)
map-two f (z ∷ xs) x y least most d e = ap₂ (λ t rest. f t ∷ rest) (sym d) (map-one f xs y (omega arith) (omega arith) e)

pub map-three : {A B : Type 0} (f : A → B) (xs : List A) (x y z : A) → 3 ≤ length xs → length xs < 4 → x ≡ get_or xs 0 x → y ≡ get_or xs 1 y → z ≡ get_or xs 2 z
    → map f xs ≡ f x ∷ f y ∷ f z ∷ []
map-three f [] x y z least most d e g = absurd (omega arith)
map-three f (v ∷ xs) x y z least most d e g = ap₂ (λ t rest. f t ∷ rest) (sym d) (map-two f xs y z (omega arith) (omega arith) e g)

-- ---- what is read

-- the words after a command's name
named : (words : List (List ℕ)) (name : List ℕ) (rest : List (List ℕ)) (c : Command) → words ≡ name ∷ rest → Reads words c → (name ≡ command_name c) × Takes rest c
named words name rest c e r =
    let both : command_name c ∷ r.0 ≡ name ∷ rest = sym r.1 ∙ e in
    (sym (ap (λ l. get_or l 0 []) both), subst (λ w. Takes w c) (ap (λ l. drop 1 l) both) r.2)

pub reads : (words : List (List ℕ)) (name : List ℕ) (rest : List (List ℕ)) (c : Command) → words ≡ name ∷ rest → name ≡ command_name c → Takes rest c → Reads words c
reads words name rest c e is takes = (rest, e ∙ ap (λ n. n ∷ rest) is, takes)

-- names whose first bytes differ
differ : {name : List ℕ} (a b : List ℕ) → eqb (get_or a 0 0) (get_or b 0 0) ≡ false → name ≡ a → name ≡ b → ⊥
differ a b test e f = eqb-false _ _ test (ap (λ l. get_or l 0 0) (sym e ∙ f))

-- names whose second bytes differ
differ_next : {name : List ℕ} (a b : List ℕ) → eqb (get_or a 1 0) (get_or b 1 0) ≡ false → name ≡ a → name ≡ b → ⊥
differ_next a b test e f = eqb-false _ _ test (ap (λ l. get_or l 1 0) (sym e ∙ f))

pub not_transform : (words : List (List ℕ)) (name : List ℕ) (rest : List (List ℕ)) (direction : Direction) → words ≡ name ∷ rest → name ≡ transform_name direction
    → IsNoTransform rest → IsNoCommand words
not_transform words name rest direction e is none (transform_of way k h xs) r = none k h xs (named words name rest (transform_of way k h xs) e r).1
not_transform words name rest Forward e is none (product_of xs ys) r = differ (codes "mul") (codes "fft") refl (named words name rest (product_of xs ys) e r).0 is
not_transform words name rest Inverse e is none (product_of xs ys) r = differ (codes "mul") (codes "ifft") refl (named words name rest (product_of xs ys) e r).0 is
not_transform words name rest Forward e is none (division_of xs ys) r = differ (codes "div") (codes "fft") refl (named words name rest (division_of xs ys) e r).0 is
not_transform words name rest Inverse e is none (division_of xs ys) r = differ (codes "div") (codes "ifft") refl (named words name rest (division_of xs ys) e r).0 is
not_transform words name rest Forward e is none (value_of xs x) r = differ (codes "eval") (codes "fft") refl (named words name rest (value_of xs x) e r).0 is
not_transform words name rest Inverse e is none (value_of xs x) r = differ (codes "eval") (codes "ifft") refl (named words name rest (value_of xs x) e r).0 is
not_transform words name rest Forward e is none (extension_of n xs x) r = differ (codes "mle") (codes "fft") refl (named words name rest (extension_of n xs x) e r).0 is
not_transform words name rest Forward e is none (size_for k) r = differ (codes "size") (codes "fft") refl (named words name rest (size_for k) e r).0 is
not_transform words name rest Inverse e is none (extension_of n xs x) r = differ (codes "mle") (codes "ifft") refl (named words name rest (extension_of n xs x) e r).0 is
not_transform words name rest Inverse e is none (size_for k) r = differ (codes "size") (codes "ifft") refl (named words name rest (size_for k) e r).0 is

pub not_multiplied : (words : List (List ℕ)) (name : List ℕ) (rest : List (List ℕ)) → words ≡ name ∷ rest → name ≡ codes "mul"
    → ((xs ys : List ℕ) → AreTwoLists rest xs ys → ⊥) → IsNoCommand words
not_multiplied words name rest e is none (transform_of Forward k h xs) r = differ (codes "fft") (codes "mul") refl (named words name rest (transform_of Forward k h xs) e r).0 is
not_multiplied words name rest e is none (transform_of Inverse k h xs) r = differ (codes "ifft") (codes "mul") refl (named words name rest (transform_of Inverse k h xs) e r).0 is
not_multiplied words name rest e is none (product_of xs ys) r = none xs ys (named words name rest (product_of xs ys) e r).1
not_multiplied words name rest e is none (division_of xs ys) r = differ (codes "div") (codes "mul") refl (named words name rest (division_of xs ys) e r).0 is
not_multiplied words name rest e is none (value_of xs x) r = differ (codes "eval") (codes "mul") refl (named words name rest (value_of xs x) e r).0 is
not_multiplied words name rest e is none (extension_of n xs x) r = differ_next (codes "mle") (codes "mul") refl (named words name rest (extension_of n xs x) e r).0 is
not_multiplied words name rest e is none (size_for k) r = differ (codes "size") (codes "mul") refl (named words name rest (size_for k) e r).0 is

pub not_divided : (words : List (List ℕ)) (name : List ℕ) (rest : List (List ℕ)) → words ≡ name ∷ rest → name ≡ codes "div"
    → ((xs ys : List ℕ) → AreTwoLists rest xs ys → ⊥) → IsNoCommand words
not_divided words name rest e is none (transform_of Forward k h xs) r = differ (codes "fft") (codes "div") refl (named words name rest (transform_of Forward k h xs) e r).0 is
not_divided words name rest e is none (transform_of Inverse k h xs) r = differ (codes "ifft") (codes "div") refl (named words name rest (transform_of Inverse k h xs) e r).0 is
not_divided words name rest e is none (product_of xs ys) r = differ (codes "mul") (codes "div") refl (named words name rest (product_of xs ys) e r).0 is
not_divided words name rest e is none (division_of xs ys) r = none xs ys (named words name rest (division_of xs ys) e r).1
not_divided words name rest e is none (value_of xs x) r = differ (codes "eval") (codes "div") refl (named words name rest (value_of xs x) e r).0 is
not_divided words name rest e is none (extension_of n xs x) r = differ (codes "mle") (codes "div") refl (named words name rest (extension_of n xs x) e r).0 is
not_divided words name rest e is none (size_for k) r = differ (codes "size") (codes "div") refl (named words name rest (size_for k) e r).0 is

pub not_evaluated : (words : List (List ℕ)) (name : List ℕ) (rest : List (List ℕ)) → words ≡ name ∷ rest → name ≡ codes "eval"
    → ((xs : List ℕ) (x : ℕ) → AreEvaluated rest xs x → ⊥) → IsNoCommand words
not_evaluated words name rest e is none (transform_of Forward k h xs) r = differ (codes "fft") (codes "eval") refl (named words name rest (transform_of Forward k h xs) e r).0 is
not_evaluated words name rest e is none (transform_of Inverse k h xs) r = differ (codes "ifft") (codes "eval") refl (named words name rest (transform_of Inverse k h xs) e r).0 is
not_evaluated words name rest e is none (product_of xs ys) r = differ (codes "mul") (codes "eval") refl (named words name rest (product_of xs ys) e r).0 is
not_evaluated words name rest e is none (division_of xs ys) r = differ (codes "div") (codes "eval") refl (named words name rest (division_of xs ys) e r).0 is
not_evaluated words name rest e is none (value_of xs x) r = none xs x (named words name rest (value_of xs x) e r).1
not_evaluated words name rest e is none (extension_of n xs x) r = differ (codes "mle") (codes "eval") refl (named words name rest (extension_of n xs x) e r).0 is
not_evaluated words name rest e is none (size_for k) r = differ (codes "size") (codes "eval") refl (named words name rest (size_for k) e r).0 is

pub not_extended : (words : List (List ℕ)) (name : List ℕ) (rest : List (List ℕ)) → words ≡ name ∷ rest → name ≡ codes "mle"
    → IsNoExtension rest → IsNoCommand words
not_extended words name rest e is none (transform_of Forward k h xs) r = differ (codes "fft") (codes "mle") refl (named words name rest (transform_of Forward k h xs) e r).0 is
not_extended words name rest e is none (transform_of Inverse k h xs) r = differ (codes "ifft") (codes "mle") refl (named words name rest (transform_of Inverse k h xs) e r).0 is
not_extended words name rest e is none (product_of xs ys) r = differ_next (codes "mul") (codes "mle") refl (named words name rest (product_of xs ys) e r).0 is
not_extended words name rest e is none (division_of xs ys) r = differ (codes "div") (codes "mle") refl (named words name rest (division_of xs ys) e r).0 is
not_extended words name rest e is none (value_of xs x) r = differ (codes "eval") (codes "mle") refl (named words name rest (value_of xs x) e r).0 is
not_extended words name rest e is none (extension_of n xs x) r = none n xs x (named words name rest (extension_of n xs x) e r).1
not_extended words name rest e is none (size_for k) r = differ (codes "size") (codes "mle") refl (named words name rest (size_for k) e r).0 is

-- ---- a field and a command

pub no_field : (words : List (List ℕ)) (word : List ℕ) (rest : List (List ℕ)) → words ≡ word ∷ rest → IsNoCommand rest → (f : Known) (c : Command) → IsCommand words f c → ⊥
no_field words word rest e none f c h =
    let both : h.0 ∷ h.1 ≡ word ∷ rest = sym h.2 ∙ e in
    none c (subst (λ w. Reads w c) (ap (λ l. drop 1 l) both) h.4)

-- ---- what may be written

pub may_answer_error : (words : List (List ℕ)) (f : Known) (c : Command) (error : PolyError) → IsCommand words f c → MayRefuse f c error → MayAnswer words (refusal_line_of error) 1
may_answer_error words f c error h (inl refuses) = inl (inl (f, c, h, inr (error, refuses, refl, refl)))
may_answer_error words f c error h (inr memory) = inr ((f, c, h, memory.0), ap refusal_line_of memory.1, refl)

pub may_answer_usage : (words : List (List ℕ)) → ((f : Known) (c : Command) → IsCommand words f c → ⊥) → MayAnswer words usage_text 2
may_answer_usage words none = inl (inr (none, refl, refl))
