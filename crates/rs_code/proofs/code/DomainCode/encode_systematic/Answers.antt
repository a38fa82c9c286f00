-- The word begins with the message, and all places but the first k are marked.
use Rattle.std.proofs.Common.{◌≡◌, ◌≤◌, length, map, take, subst, sym, ap, ◌∙◌, arith}
use Rattle.ark_math_domains.proofs.Callers.Transforms.{transform-length}
use Rattle.ark_math.proofs.Outcomes.Results.{IfOk_both, IfOk_more}
use Rattle.rs_code.specs.Codeword.{AgreesElsewhere, IsCodeword, mark_count}
use Rattle.rs_code.proofs.FirstPlaces.{agrees_by_message, begins_with_message, mark_count-after_first}
use Rattle.rs_code.proofs.Refused.{few_errors}
use Rattle.rs_code.proofs.code.DomainCode.encode_systematic.Goals as goal

pub padded-requires : goal.padded-requires
padded-requires g c =
    let code = c.args.self.now in
    let fits : code.k ≤ code.domain.size = subst (λ r. r.k ≤ r.domain.size) c.self.view_is c.self.invariant.fits in
    omega (arith, fits, c.n.ensures, c.if-message-self.false, ap (λ r. r.k) c.self.view_is)

pub returns-clause-systematic : goal.returns-clause-systematic
returns-clause-systematic g c =
    let K = g.F.Field.field in
    let V = g.T.DomainCoeff.group in
    let m = g.T.DomainCoeff.meaning in
    let code = c.args.self.now in
    let word = c.deref.result.now in
    let fits : code.k ≤ code.domain.size = subst (λ r. r.k ≤ r.domain.size) c.self.view_is c.self.invariant.fits in
    let len : length c.args.message.now ≡ code.k = omega (arith, c.if-message-self.false, ap (λ r. r.k) c.self.view_is) in
    let front : take code.k word ≡ c.args.message.now = subst (λ m. take m word ≡ c.args.message.now) len (ap (take (length c.args.message.now)) c.deref.ensures.value ∙ c.in_ok-word.ensures.begins) in
    IfOk_both c.restore.result
    (λ v agrees codeword.
    begins_with_message V m code.k code.domain.size c.args.message.now word len front (map m v.items)
    (omega (arith, fits, ap length codeword.2, transform-length K V c.in_ok-decoder.decoder.code.domain codeword.0, ap (λ r. r.domain.size) c.in_ok-decoder.ensures.code))
    (subst (λ e. AgreesElsewhere V e (map m word) (map m v.items)) c.in_ok-decoder.ensures.erased agrees))
    c.restore.ensures.agrees c.restore.ensures.codeword

pub returns-clause-only : goal.returns-clause-only
returns-clause-only g c =
    let K = g.F.Field.field in
    let V = g.T.DomainCoeff.group in
    let m = g.T.DomainCoeff.meaning in
    let code = c.args.self.now in
    let word = c.deref.result.now in
    let len : length c.args.message.now ≡ code.k = omega (arith, c.if-message-self.false, ap (λ r. r.k) c.self.view_is) in
    let front : take code.k word ≡ c.args.message.now = subst (λ m. take m word ≡ c.args.message.now) len (ap (take (length c.args.message.now)) c.deref.ensures.value ∙ c.in_ok-word.ensures.begins) in
    IfOk_more c.restore.result
    (λ v only other codeword begins.
    only other
    (subst (λ r. IsCodeword K V r.domain r.k other) (sym c.in_ok-decoder.ensures.code) codeword)
    (subst (λ e. AgreesElsewhere V e (map m word) other) (sym c.in_ok-decoder.ensures.erased)
    (agrees_by_message V m code.k code.domain.size c.args.message.now word len front other begins)))
    c.restore.ensures.only

pub returns-clause-errors : goal.returns-clause-errors
returns-clause-errors g c =
    let code = c.args.self.now in
    let fits : code.k ≤ code.domain.size = subst (λ r. r.k ≤ r.domain.size) c.self.view_is c.self.invariant.fits in
    few_errors c.restore.result c.restore.ensures.never_too_many
    (c.restore.ensures.refused.always
    (omega (arith, fits, ap (λ r. r.k) c.in_ok-decoder.ensures.code, ap (λ r. r.domain.size) c.in_ok-decoder.ensures.code, ap mark_count c.in_ok-decoder.ensures.erased, mark_count-after_first code.k code.domain.size)))
