-- What the clauses of a form's calls say of meanings, in terms of what its values show.
use Rattle.std.proofs.Common.{◌≡◌, ◌∙◌, sym, ap, ap₂}
use Rattle.ark_math.specs.Forms.{IsEmbedding, IsShown}
use Rattle.ark_math.specs.Module.{ModuleOn}

pub embedding_shows : {F M N S : Type 0} {V : ModuleOn F M} {W : ModuleOn F N} {meaning : S → M} {shown : S → N} (f : M → N) → IsEmbedding V W f → ((p : S) → f (meaning p) ≡ shown p) → IsShown V W meaning shown
embedding_shows {V = V} {W = W} {meaning = meaning} {shown = shown} f embeds law = record {
  same = λ p q. (λ e. sym (law p) ∙ ap f e ∙ law q, λ e. embeds.one_to_one (meaning p) (meaning q) (law p ∙ e ∙ sym (law q)));
  zero = λ p. (λ e. sym (law p) ∙ ap f e ∙ embeds.zero_kept, λ e. embeds.one_to_one (meaning p) V.zero (law p ∙ e ∙ sym embeds.zero_kept));
  sum = λ p q r e. sym (law r) ∙ ap f e ∙ embeds.plus_kept (meaning p) (meaning q) ∙ ap₂ W.plus (law p) (law q);
  difference = λ p q r e.
      sym (law r) ∙ ap f e ∙ embeds.plus_kept (meaning p) (V.negated (meaning q))
      ∙ ap₂ W.plus (law p) (embeds.negated_kept (meaning q) ∙ ap W.negated (law q));
  opposite = λ p r e. sym (law r) ∙ ap f e ∙ embeds.negated_kept (meaning p) ∙ ap W.negated (law p);
  sum_with_multiple = λ s p q r e.
      sym (law r) ∙ ap f e ∙ embeds.plus_kept (meaning p) (V.scale s (meaning q))
      ∙ ap₂ W.plus (law p) (embeds.scale_kept s (meaning q) ∙ ap (W.scale s) (law q));
}
