use Rattle.std.proofs.Common.{inl, inr, refl, string_bytes}
use Rattle.polyrun_lib.proofs.Commands.{map-two}
use Rattle.polyrun_lib.proofs.Checking.{two_words}
use Rattle.polyrun_lib.proofs.vectors.vectors_of.Goals as goal

pub returns-in-text-clause-some : goal.returns-in-text-clause-some
returns-in-text-clause-some c =
    let words = map-two string_bytes c.args.words.now _ _ c.in-len2.len_at_least c.in-len2.len_below c.field-item.is c.name-item.is in (
      two_words _ _ _ c.as_str-2.result.now c.as_str.result.now _ c.ne.result words c.as_str-2.ensures.value c.in-text.is c.as_str.ensures.value c.ne.ensures c.if-ne.false,
      inl (refl, refl),
    )

pub returns-in-text-2-clause-some : goal.returns-in-text-2-clause-some
returns-in-text-2-clause-some c =
    let words = map-two string_bytes c.args.words.now _ _ c.in-len2.len_at_least c.in-len2.len_below c.field-item.is c.name-item.is in (
      two_words _ _ _ c.as_str-2.result.now c.as_str.result.now _ c.ne.result words c.as_str-2.ensures.value c.in-text-2.is c.as_str.ensures.value c.ne.ensures c.if-ne.false,
      inr (inl (refl, refl)),
    )

pub returns-in-text-3-clause-some : goal.returns-in-text-3-clause-some
returns-in-text-3-clause-some c =
    let words = map-two string_bytes c.args.words.now _ _ c.in-len2.len_at_least c.in-len2.len_below c.field-item.is c.name-item.is in (
      two_words _ _ _ c.as_str-2.result.now c.as_str.result.now _ c.ne.result words c.as_str-2.ensures.value c.in-text-3.is c.as_str.ensures.value c.ne.ensures c.if-ne.false,
      inr (inr (inl (refl, refl))),
    )

pub returns-in-babybear-clause-some : goal.returns-in-babybear-clause-some
returns-in-babybear-clause-some c =
    let words = map-two string_bytes c.args.words.now _ _ c.in-len2.len_at_least c.in-len2.len_below c.field-item.is c.name-item.is in (
      two_words _ _ _ c.as_str-2.result.now c.as_str.result.now _ c.ne.result words c.as_str-2.ensures.value c.in-babybear.is c.as_str.ensures.value c.ne.ensures c.if-ne.false,
      inr (inr (inr (inl (refl, refl)))),
    )

pub returns-in-koalabear-clause-some : goal.returns-in-koalabear-clause-some
returns-in-koalabear-clause-some c =
    let words = map-two string_bytes c.args.words.now _ _ c.in-len2.len_at_least c.in-len2.len_below c.field-item.is c.name-item.is in (
      two_words _ _ _ c.as_str-2.result.now c.as_str.result.now _ c.ne.result words c.as_str-2.ensures.value c.in-koalabear.is c.as_str.ensures.value c.ne.ensures c.if-ne.false,
      inr (inr (inr (inr (inl (refl, refl))))),
    )

pub returns-in-goldilocks-clause-some : goal.returns-in-goldilocks-clause-some
returns-in-goldilocks-clause-some c =
    let words = map-two string_bytes c.args.words.now _ _ c.in-len2.len_at_least c.in-len2.len_below c.field-item.is c.name-item.is in (
      two_words _ _ _ c.as_str-2.result.now c.as_str.result.now _ c.ne.result words c.as_str-2.ensures.value c.in-goldilocks.is c.as_str.ensures.value c.ne.ensures c.if-ne.false,
      inr (inr (inr (inr (inr (inl (refl, refl)))))),
    )

pub returns-in-text-4-clause-some : goal.returns-in-text-4-clause-some
returns-in-text-4-clause-some c =
    let words = map-two string_bytes c.args.words.now _ _ c.in-len2.len_at_least c.in-len2.len_below c.field-item.is c.name-item.is in (
      two_words _ _ _ c.as_str-2.result.now c.as_str.result.now _ c.ne.result words c.as_str-2.ensures.value c.in-text-4.is c.as_str.ensures.value c.ne.ensures c.if-ne.false,
      inr (inr (inr (inr (inr (inr (inl (refl, refl))))))),
    )

pub returns-in-bn254-clause-some : goal.returns-in-bn254-clause-some
returns-in-bn254-clause-some c =
    let words = map-two string_bytes c.args.words.now _ _ c.in-len2.len_at_least c.in-len2.len_below c.field-item.is c.name-item.is in (
      two_words _ _ _ c.as_str-2.result.now c.as_str.result.now _ c.ne.result words c.as_str-2.ensures.value c.in-bn254.is c.as_str.ensures.value c.ne.ensures c.if-ne.false,
      inr (inr (inr (inr (inr (inr (inr (refl, refl))))))),
    )
