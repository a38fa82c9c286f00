use Rattle.std.proofs.Common.{refl}
use Rattle.ark_math_variables.specs.Term.{IsWithin}
use Rattle.ark_multi.proofs.SortedTerms.{term_order, keyed_clones, rising_like, All_like}
use Rattle.ark_multi.proofs.multivariate.sparse.SparsePolynomialClone.clone.Goals as goal

pub invariant_of-result : goal.invariant_of-result
invariant_of-result g c =
    let K = g.F.Field.field in
    let N = g.met.F.Field.field_laws in
    let o = term_order g.met.T.Ord.total g.met.T.Ord.matches_eq g.met.T.Term.equality_law in
    let self = c.args.self.now in
    let same = keyed_clones K N o (λ x y. g.F.Clone.is_clone x.0 y.0 × g.T.Clone.is_clone x.1 y.1) (λ x y made. (g.met.F.Field.clone_law x.0 y.0 made.0, g.met.T.Term.clone_law x.1 y.1 made.1)) self.terms.items c.in_ok-clone.field-0.items c.in_ok-clone.ensures.cases.0 in
    let rising = rising_like K N o self.terms.items c.in_ok-clone.field-0.items same (record { rising = self.rising; not_zero = self.not_zero }) in
    record {
      rising = rising.rising;
      not_zero = rising.not_zero;
      within = All_like K N o (λ p. IsWithin self.num_vars p.1) self.terms.items c.in_ok-clone.field-0.items same self.within;
    }

pub returns : goal.returns
returns g c =
    let o = term_order g.met.T.Ord.total g.met.T.Ord.matches_eq g.met.T.Term.equality_law in
    record { cases = (refl, keyed_clones g.F.Field.field g.met.F.Field.field_laws o (λ x y. g.F.Clone.is_clone x.0 y.0 × g.T.Clone.is_clone x.1 y.1) (λ x y made. (g.met.F.Field.clone_law x.0 y.0 made.0, g.met.T.Term.clone_law x.1 y.1 made.1)) c.args.self.now.terms.items c.in_ok-clone.field-0.items c.in_ok-clone.ensures.cases.0) }
