use Rattle.std.proofs.Common.{◌≡◌, ◌≢◌, ◌⊎◌, ℕ, List, length, OnOk, IfErr, subst₂}
use Rattle.shards_streams.proofs.Results.{if_err_map}
use Rattle.shards_buffers.specs.declared.error.BufferError.{BufferError}
use Rattle.shards_buffers.specs.declared.error.BufferError.TheVariants.{Length, Memory}
use Rattle.shards_buffers.specs.Runs.{AreEnough, EndAsPieces, HasCollision}
use Rattle.ark_c.proofs.pieces.join_by.Goals as goal

pub returns-clause-file : goal.returns-clause-file
returns-clause-file g c =
    subst₂ (λ k n. OnOk c.join.result ((label bytes : List ℕ) → AreEnough g.C.StripeCode.number k n label bytes c.args.pieces.now → c.join.new.bytes ≡ bytes))
    c.in_ok-code.ensures.k c.in_ok-code.ensures.n c.join.ensures.same

pub returns-clause-trusted : goal.returns-clause-trusted
returns-clause-trusted g c =
    subst₂ (λ k n. OnOk c.join.result ((label bytes : List ℕ) → EndAsPieces g.C.StripeCode.number k n label bytes c.args.pieces.now → (c.join.new.bytes ≡ bytes) ⊎ HasCollision g.C.StripeCode.number k n label bytes c.args.pieces.now))
    c.in_ok-code.ensures.k c.in_ok-code.ensures.n c.join.ensures.trusted

pub returns-clause-refused : goal.returns-clause-refused
returns-clause-refused g c =
    let Refused = λ (k n : ℕ) (e : BufferError). (label bytes : List ℕ) → AreEnough g.C.StripeCode.number k n label bytes c.args.pieces.now
    → (e ≡ Memory) ⊎ ((e ≡ Length) × (length bytes ≢ length c.args.file.now)) in
    if_err_map c.join.result (Refused c.args.k c.args.n) _ (λ e refused label bytes code pieces. refused label bytes pieces)
    (subst₂ (λ k n. IfErr c.join.result (Refused k n)) c.in_ok-code.ensures.k c.in_ok-code.ensures.n c.join.ensures.refused)
