use Rattle.std.proofs.Common.{◌≡◌, not, ◌&&◌, sym, ap, ◌∙◌, rules}
use Rattle.std.specs.List.{list_any}
use Rattle.std.proofs.lemmas.Iterator.{YieldsList-from_slice}
use Rattle.std.proofs.lemmas.Iterator.Search.{any_from_yields_List}
use borrow.Author.Tests.{tests}
use Rattle.tokens.specs.Tokens.{is_eof, ends}
use Rattle.tokens.proofs.Lists.{ends_append}
use Rattle.tokens.proofs.list_source.ends_well.Goals as goal

pub returns-then-is_eof : goal.returns-then-is_eof
returns-then-is_eof c =
    let front = c.in-Some.front.now in
    let any : c.any.result ≡ list_any is_eof front = any_from_yields_List is_eof _ _ _ c.any.ensures.ran (YieldsList-from_slice front cc) (λ x b q k. search (rules, tests)) in
    record { value = ap not any ∙ ap (λ b. b && not (list_any is_eof front)) c.if-is_eof.ensures.value ∙ sym (ap ends c.in-Some.ensures.cases.0 ∙ ends_append front c.in-Some.last.now) }

pub returns-else-is_eof : goal.returns-else-is_eof
returns-else-is_eof c =
    let front = c.in-Some.front.now in
    record { value = c.if-is_eof.false ∙ ap (λ b. b && not (list_any is_eof front)) c.if-is_eof.ensures.value ∙ sym (ap ends c.in-Some.ensures.cases.0 ∙ ends_append front c.in-Some.last.now) }
