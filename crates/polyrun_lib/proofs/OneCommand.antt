-- Words are at most one command, over at most one field.
use Rattle.std.proofs.Common.{◌≡◌, ℕ, eqb, if◌then◌else◌, List, [], get_or, drop, sym, ap, ◌∙◌, inl, inr}
use Rattle.std.specs.List.{filter_map}
use Rattle.std.specs.Str.Parse.{digits_value}
use Rattle.polyrun_lib.specs.declared.command.Direction.TheVariants.{Forward, Inverse}
use Rattle.polyrun_lib.specs.Commands.{Command, transform_of, product_of, division_of, value_of, extension_of, size_for, command_name, Takes, Reads}
use Rattle.ark_numbers.specs.Fields.{Known, field_5, field_433, field_65537, babybear, koalabear, goldilocks, bls12_381, bn254}
use Rattle.polyrun_lib.specs.Answer.{Names, IsCommand}
use Rattle.polyrun_lib.proofs.Reading.{pieces, number_in, filter_map-pieces}

-- what is told by a field's name: its first two bytes are enough
abbrev pub by_name : {A : Type 0} → A → A → A → A → A → A → A → A → List ℕ → A
by_name a5 a433 a65537 a_babybear a_koalabear a_goldilocks a_bls12_381 a_bn254 name =
    if eqb (get_or name 0 0) 53 then a5
    else if eqb (get_or name 0 0) 52 then a433
    else if eqb (get_or name 0 0) 54 then a65537
    else if eqb (get_or name 0 0) 107 then a_koalabear
    else if eqb (get_or name 0 0) 103 then a_goldilocks
    else if eqb (get_or name 1 0) 97 then a_babybear
    else if eqb (get_or name 1 0) 108 then a_bls12_381
    else a_bn254

field_of : List ℕ → Known
field_of = by_name field_5 field_433 field_65537 babybear koalabear goldilocks bls12_381 bn254

named : (word : List ℕ) (f : Known) → Names word f → f ≡ field_of word
unfolding field_of
named word f (inl is) = is.1 ∙ ap field_of (sym is.0)
named word f (inr (inl is)) = is.1 ∙ ap field_of (sym is.0)
named word f (inr (inr (inl is))) = is.1 ∙ ap field_of (sym is.0)
named word f (inr (inr (inr (inl is)))) = is.1 ∙ ap field_of (sym is.0)
named word f (inr (inr (inr (inr (inl is))))) = is.1 ∙ ap field_of (sym is.0)
named word f (inr (inr (inr (inr (inr (inl is)))))) = is.1 ∙ ap field_of (sym is.0)
named word f (inr (inr (inr (inr (inr (inr (inl is))))))) = is.1 ∙ ap field_of (sym is.0)
named word f (inr (inr (inr (inr (inr (inr (inr is))))))) = is.1 ∙ ap field_of (sym is.0)

-- the numbers of a word that spells a list
list_in : List ℕ → List ℕ
list_in word = filter_map number_in (pieces word)

-- the command that a name and the words after it are, where they are one: the name tells it by its first two bytes
decoded : List ℕ → List (List ℕ) → Command
decoded name words =
    let a = get_or words 0 [] in
    let b = get_or words 1 [] in
    let c = get_or words 2 [] in
    if eqb (get_or name 0 0) 102 then transform_of Forward (digits_value 10 a) (digits_value 10 b) (list_in c)
    else if eqb (get_or name 0 0) 105 then transform_of Inverse (digits_value 10 a) (digits_value 10 b) (list_in c)
    else if eqb (get_or name 0 0) 100 then division_of (list_in a) (list_in b)
    else if eqb (get_or name 0 0) 101 then value_of (list_in a) (digits_value 10 b)
    else if eqb (get_or name 0 0) 115 then size_for (digits_value 10 a)
    else if eqb (get_or name 1 0) 117 then product_of (list_in a) (list_in b)
    else extension_of (digits_value 10 a) (list_in b) (list_in c)

taken : (c : Command) (words : List (List ℕ)) → Takes words c → c ≡ decoded (command_name c) words
unfolding decoded list_in
taken (transform_of Forward k h xs) words t =
    ap (λ n. transform_of Forward n h xs) t.4.value ∙ ap (λ n. transform_of Forward (digits_value 10 t.0) n xs) t.5.value
    ∙ ap (transform_of Forward (digits_value 10 t.0) (digits_value 10 t.1)) (sym (filter_map-pieces t.2 xs t.6)) ∙ ap (decoded (command_name (transform_of Forward k h xs))) (sym t.3)
taken (transform_of Inverse k h xs) words t =
    ap (λ n. transform_of Inverse n h xs) t.4.value ∙ ap (λ n. transform_of Inverse (digits_value 10 t.0) n xs) t.5.value
    ∙ ap (transform_of Inverse (digits_value 10 t.0) (digits_value 10 t.1)) (sym (filter_map-pieces t.2 xs t.6)) ∙ ap (decoded (command_name (transform_of Inverse k h xs))) (sym t.3)
taken (product_of xs ys) words t =
    ap (λ l. product_of l ys) (sym (filter_map-pieces t.0 xs t.3)) ∙ ap (product_of (filter_map number_in (pieces t.0))) (sym (filter_map-pieces t.1 ys t.4))
    ∙ ap (decoded (command_name (product_of xs ys))) (sym t.2)
taken (division_of xs ys) words t =
    ap (λ l. division_of l ys) (sym (filter_map-pieces t.0 xs t.3)) ∙ ap (division_of (filter_map number_in (pieces t.0))) (sym (filter_map-pieces t.1 ys t.4))
    ∙ ap (decoded (command_name (division_of xs ys))) (sym t.2)
taken (value_of xs x) words t =
    ap (λ l. value_of l x) (sym (filter_map-pieces t.0 xs t.3)) ∙ ap (value_of (filter_map number_in (pieces t.0))) t.4.value
    ∙ ap (decoded (command_name (value_of xs x))) (sym t.2)
taken (extension_of n xs x) words t =
    ap (λ m. extension_of m xs x) t.4.value ∙ ap (λ l. extension_of (digits_value 10 t.0) l x) (sym (filter_map-pieces t.1 xs t.5))
    ∙ ap (extension_of (digits_value 10 t.0) (filter_map number_in (pieces t.1))) (sym (filter_map-pieces t.2 x t.6)) ∙ ap (decoded (command_name (extension_of n xs x))) (sym t.3)
taken (size_for k) words t = ap size_for t.2.value ∙ ap (decoded (command_name (size_for k))) (sym t.1)

read : (words : List (List ℕ)) (c : Command) → Reads words c → c ≡ decoded (get_or words 0 []) (drop 1 words)
read words c r = taken c r.0 r.2 ∙ ap (λ l. decoded (get_or l 0 []) (drop 1 l)) (sym r.1)

pub one_command : (words : List (List ℕ)) (f h : Known) (c d : Command) → IsCommand words f c → IsCommand words h d → (h ≡ f) × (d ≡ c)
one_command words f h c d a b =
    let first : b.0 ≡ a.0 = ap (λ l. get_or l 0 []) (sym b.2 ∙ a.2) in
    let rest : b.1 ≡ a.1 = ap (λ l. drop 1 l) (sym b.2 ∙ a.2) in (
      named b.0 h b.3 ∙ ap field_of first ∙ sym (named a.0 f a.3),
      read b.1 d b.4 ∙ ap (λ l. decoded (get_or l 0 []) (drop 1 l)) rest ∙ sym (read a.1 c a.4),
    )
