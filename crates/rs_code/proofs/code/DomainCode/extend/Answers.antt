-- The codeword is what it begins with, and what stands behind that.
use Rattle.std.proofs.Common.{◌≡◌, ◌≤◌, ◌++◌, length, map, drop, subst, sym, ap, ap₂, ◌∙◌, arith}
use Rattle.std.proofs.lemmas.List.{drop-map, length-take-le, take-append-drop}
use Rattle.ark_math_domains.proofs.Callers.Transforms.{transform-length}
use Rattle.rs_code.specs.Codeword.{IsCodeword}
use Rattle.rs_code.proofs.FirstPlaces.{behind_first, first_of, slice_from}
use Rattle.rs_code.proofs.code.DomainCode.extend.Goals as goal

pub returns-clause-codeword : goal.returns-clause-codeword
returns-clause-codeword g c =
    let K = g.F.Field.field in
    let V = g.T.DomainCoeff.group in
    let m = g.T.DomainCoeff.meaning in
    let code = c.args.self.now in
    let word = c.in_ok-codeword.codeword.items in
    let slice = c.deref.result.now in
    let rest : c.in_ok-from_slice.field-0.items ≡ drop code.k word =
    c.in_ok-from_slice.ensures.items ∙ slice_from c.self.inside.k slice ∙ ap₂ drop (ap (λ r. r.k) c.self.view_is) c.deref.ensures.value in
    let whole : map m c.args.message.now ++ map m c.in_ok-from_slice.field-0.items ≡ map m word =
    ap₂ (λ s t. s ++ t) (sym c.in_ok-codeword.ensures.systematic) (ap (map m) rest ∙ sym (drop-map m code.k word))
    ∙ take-append-drop code.k (map m word) in
    subst (IsCodeword K V code.domain code.k) (sym whole) c.in_ok-codeword.ensures.codeword

pub returns-clause-only : goal.returns-clause-only
returns-clause-only g c = λ others is.
    let K = g.F.Field.field in
    let V = g.T.DomainCoeff.group in
    let m = g.T.DomainCoeff.meaning in
    let code = c.args.self.now in
    let word = c.in_ok-codeword.codeword.items in
    let slice = c.deref.result.now in
    let message = map m c.args.message.now in
    let rest : c.in_ok-from_slice.field-0.items ≡ drop code.k word =
    c.in_ok-from_slice.ensures.items ∙ slice_from c.self.inside.k slice ∙ ap₂ drop (ap (λ r. r.k) c.self.view_is) c.deref.ensures.value in
    let codeword = c.in_ok-codeword.ensures.codeword in
    let fits : code.k ≤ code.domain.size = subst (λ r. r.k ≤ r.domain.size) c.self.view_is c.self.invariant.fits in
    let size : length (map m word) ≡ code.domain.size = ap length codeword.2 ∙ transform-length K V code.domain codeword.0 in
    let len : length message ≡ code.k = ap length (sym c.in_ok-codeword.ensures.systematic) ∙ length-take-le code.k (map m word) (omega (arith, fits, size)) in
    behind_first code.k message others (map m word) len
    (c.in_ok-codeword.ensures.only (message ++ others) is (first_of code.k message others len))
    ∙ drop-map m code.k word ∙ ap (map m) (sym rest)
