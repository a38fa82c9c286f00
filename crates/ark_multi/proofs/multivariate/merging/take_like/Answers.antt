use Rattle.std.proofs.Common.{◌≡◌, ◌-◌, true, false, length, sym, ap, ◌∙◌}
use Rattle.std.specs.List.{slice_get}
use Rattle.ark_multi.proofs.SortedTerms.{term_order, none_last, last_is, like_rising, like_below, like_sum, unlike_below, unlike_sum}
use Rattle.ark_multi.proofs.multivariate.merging.take_like.Goals.{in_default-via-in-Some+else-eq, in_default-via-in_default}
use Rattle.ark_multi.proofs.multivariate.merging.take_like.Goals as goal

pub returns-in_default-clause-below : goal.returns-in_default-clause-below
returns-in_default-clause-below g c =
    let K = g.F.Field.field in
    let N = g.met.F.Field.field_laws in
    let o = term_order g.met.T.Ord.total g.met.T.Ord.matches_eq g.met.T.Term.equality_law in
    let terms = c.args.terms.now.items in
    let term = c.args.term.now in
    let at = ap (λ t. slice_get t (length t - 1)) (sym c.deref.ensures.value) in
    elim c.in_default.branch [
      | in_default-via-in-Some+else-eq w ↦
          let last = w.in-Some.last.now in
          unlike_below K N o terms last term c.requires.rising c.requires.upto (at ∙ sym w.in-Some.ensures.value)
          (λ e. let same : true ≡ false = sym ((g.met.T.Term.equality_law last.1 term).1 e) ∙ sym w.eq.ensures ∙ w.if-eq.false in cc)
      | in_default-via-in_default w ↦ none_last K N o terms term (at ∙ sym w.in_default.ensures.value)
    ]

pub returns-in_default-clause-sum : goal.returns-in_default-clause-sum
returns-in_default-clause-sum g c =
    let o = term_order g.met.T.Ord.total g.met.T.Ord.matches_eq g.met.T.Term.equality_law in
    unlike_sum g.F.Field.field g.met.F.Field.field_laws o c.args.terms.now.items c.args.term.now c.zero.result (c.zero.ensures ∙ g.met.F.Field.zero_law)

pub returns-in-Some-pop-clause-rising : goal.returns-in-Some-pop-clause-rising
returns-in-Some-pop-clause-rising g c =
    let o = term_order g.met.T.Ord.total g.met.T.Ord.matches_eq g.met.T.Term.equality_law in
    like_rising g.F.Field.field g.met.F.Field.field_laws o c.args.terms.now.items c.pop.new.self.items c.in-Some-pop.last c.requires.rising c.in-Some-pop.ensures.items

pub returns-in-Some-pop-clause-below : goal.returns-in-Some-pop-clause-below
returns-in-Some-pop-clause-below g c =
    let K = g.F.Field.field in
    let N = g.met.F.Field.field_laws in
    let o = term_order g.met.T.Ord.total g.met.T.Ord.matches_eq g.met.T.Term.equality_law in
    let terms = c.args.terms.now.items in
    let last = c.in-Some.last.now in
    let popped = c.in-Some-pop.last in
    let at = ap (λ t. slice_get t (length t - 1)) (sym c.deref.ensures.value) ∙ sym c.in-Some.ensures.value in
    let like = ap (λ t. g.T.Term.listed t.1) (sym (last_is K N o terms c.pop.new.self.items last popped at c.in-Some-pop.ensures.items)) ∙ (g.met.T.Term.equality_law last.1 c.args.term.now).0 (sym c.eq.ensures ∙ c.if-eq.true) in
    like_below K N o terms c.pop.new.self.items popped c.args.term.now c.requires.rising c.in-Some-pop.ensures.items like

pub returns-in-Some-pop-clause-sum : goal.returns-in-Some-pop-clause-sum
returns-in-Some-pop-clause-sum g c =
    let K = g.F.Field.field in
    let N = g.met.F.Field.field_laws in
    let o = term_order g.met.T.Ord.total g.met.T.Ord.matches_eq g.met.T.Term.equality_law in
    let terms = c.args.terms.now.items in
    let last = c.in-Some.last.now in
    let popped = c.in-Some-pop.last in
    let at = ap (λ t. slice_get t (length t - 1)) (sym c.deref.ensures.value) ∙ sym c.in-Some.ensures.value in
    let like = ap (λ t. g.T.Term.listed t.1) (sym (last_is K N o terms c.pop.new.self.items last popped at c.in-Some-pop.ensures.items)) ∙ (g.met.T.Term.equality_law last.1 c.args.term.now).0 (sym c.eq.ensures ∙ c.if-eq.true) in
    like_sum K N o terms c.pop.new.self.items popped c.args.term.now c.in-Some-pop.ensures.items like
