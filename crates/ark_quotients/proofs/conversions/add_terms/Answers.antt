use Rattle.std.proofs.Common.{◌≡◌, ℕ, ◌+◌, ◌<◌, List, length, set, take, get_or, ap, ◌∙◌, arith}
use Rattle.std.proofs.lemmas.List.{get_or_read, take_all}
use Rattle.ark_math.specs.Field.{FieldOn, IsField}
use Rattle.ark_math.specs.Univariate.{added, of_list, of_pairs}
use Rattle.ark_quotients.proofs.ConvertedLists.{pair_added, pair_subtracted}
use Rattle.ark_quotients.specs.declared.conversions.Sign.{Sign}
use Rattle.ark_quotients.specs.declared.conversions.Sign.TheVariants.{Plus, Minus}
use Rattle.ark_quotients.specs.Signs.{all_signed, signed}
use Rattle.ark_quotients.proofs.conversions.add_terms.Goals as goal

-- one pair more of either sign, as a list is written
pair_signed : {F : Type 0} (K : FieldOn F) → IsField K → (s : Sign) (p : List (ℕ × F)) (i : ℕ) (x : ℕ × F) (a : ℕ → F) (c : List F) (y : F) → i < length p → x ≡ get_or p i x → x.0 < length c
    → of_list K c ≡ added K a (all_signed K s (of_pairs K (take i p))) → y ≡ K.plus (of_list K c x.0) (signed K s x.1) → of_list K (set c x.0 y) ≡ added K a (all_signed K s (of_pairs K (take (i + 1) p)))
pair_signed K N Plus = pair_added K N
pair_signed K N Minus = pair_subtracted K N

pub loop-i-preserved : goal.loop-i-preserved
loop-i-preserved g c =
    let K = g.F.Field.field in
    let coeffs = c.loop-i.coeffs in
    let terms = c.args.terms.now in
    let i = c.loop-i.i in
    let x = c.index-terms-i.result in
    let room = c.requires i x c.loop-i-test.true in
    let inside : x.0 < length coeffs = omega (arith, room, c.loop-i.auto.coeffs, ap (λ t. t.0) c.index-terms-i.is) in
    let old : c.index-coeffs-term.result ≡ of_list K coeffs x.0 = get_or_read coeffs x.0 c.index-coeffs-term.result inside c.index-coeffs-term.is K.zero in
    pair_signed K g.met.F.Field.field_laws c.args.sign terms i x (of_list K c.args.coeffs.now) coeffs c.add_signed.result c.loop-i-test.true c.index-terms-i.is inside c.loop-i.invariant
    (c.add_signed.ensures ∙ ap (λ t. K.plus t (signed K c.args.sign x.1)) old)

pub returns : goal.returns
returns g c =
    let K = g.F.Field.field in
    c.loop-i.invariant ∙ ap (λ t. added K (of_list K c.args.coeffs.now) (all_signed K c.args.sign (of_pairs K t))) (take_all c.loop-i.i c.args.terms.now (omega arith))
