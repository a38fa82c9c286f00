use Rattle.std.proofs.Common.{◌<◌, List, ℕ, get_or, length, arith, rules, sym, subst, ap, inr, refl}
use Rattle.shards_format.specs.Files.{AreApart}
use Rattle.shards_buffers.proofs.Opened.{below, same_apart}
use Rattle.shards_buffers.proofs.opening.open_pieces.Goals as goal

pub are_apart-requires : goal.are_apart-requires
are_apart-requires g c = λ a h.
    let k = g.C.StripeCode.k_of c.args.code.now in
    let n = g.C.StripeCode.n_of c.args.code.now in
    let o = c.in_ok-opened.ensures.opened in
    let low : a < k = omega (arith, h, ap length c.deref.ensures.value, o.1.as_many) in
    omega (
      arith,
      ap (λ (xs : List ℕ). get_or xs a 0) c.deref.ensures.value,
      below k n c.args.len k c.args.pieces.now o.0 c.in_ok-opened.opened.0.items c.in_ok-opened.opened.1.items o.1 a low,
      c.n-n.ensures.n,
    )

pub returns-clause-errors : goal.returns-clause-errors
returns-clause-errors g c =
    let k = g.C.StripeCode.k_of c.args.code.now in
    let n = g.C.StripeCode.n_of c.args.code.now in
    let o = c.in_ok-opened.ensures.opened in
    inr (
      refl,
      λ s.
          let apart = same_apart k n c.args.len k c.args.pieces.now o.0 c.in_ok-opened.opened.0.items c.in_ok-opened.opened.1.items o.1 (omega (arith, c.n-n.ensures.few, c.n-n.ensures.n)) s refl in
          let yes = c.in_ok-are_apart.ensures.1 (subst (λ (xs : List ℕ). AreApart xs) (sym c.deref.ensures.value) apart) in
          search rules,
    )
