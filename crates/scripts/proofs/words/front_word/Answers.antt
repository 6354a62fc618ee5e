use Rattle.std.proofs.Common.{rules}
use Rattle.scripts.specs.Words.{space, dark}
use Rattle.scripts.proofs.Wording.{some_word, no_word}
use Rattle.scripts.proofs.words.front_word.Goals as goal

pub returns-then-end-eq0-clause-cases : goal.returns-then-end-eq0-clause-cases
returns-then-end-eq0-clause-cases c =
    no_word _ _ _ _ (c.front_len.ensures.value space (λ b r h. search rules)) c.split_at.ensures.back (c.front_len-end.ensures.value dark (λ b r h. search rules)) c.if-end-eq0.true

pub returns-clause-cases : goal.returns-clause-cases
returns-clause-cases c =
    some_word _ _ _ _ (c.front_len.ensures.value space (λ b r h. search rules)) c.split_at.ensures.back (c.front_len-end.ensures.value dark (λ b r h. search rules)) _ _ c.if-end-eq0.false c.split_at-2.ensures.front c.split_at-2.ensures.back
