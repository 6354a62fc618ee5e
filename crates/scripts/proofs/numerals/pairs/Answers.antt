use Rattle.std.proofs.Common.{filter, rules, tests}
use Rattle.std.proofs.lemmas.Iterator.{YieldsList-from_slice}
use Rattle.std.proofs.lemmas.Iterator.Consumers.{YieldsList-from_filter, YieldsList-at}
use Rattle.scripts.specs.Words.{dark}
use Rattle.scripts.proofs.Gathered.{coming_first, coming_end, coming_one, coming_no_pair, coming_pair}
use Rattle.scripts.proofs.numerals.pairs.Goals as goal

pub pairs-init : goal.pairs-init
pairs-init c =
    (search rules, search rules, coming_first _ _ (filter dark c.args.line.now) _ c.new-found.ensures.items (YieldsList-from_filter _ dark (YieldsList-at c.filter-digits.ensures.source (YieldsList-from_slice c.args.line.now cc)) c.filter-digits.ensures.closure (λ x b q k. search (rules, tests))))

pub returns-in_default-next : goal.returns-in_default-next
returns-in_default-next c = record { made = coming_one _ _ _ _ c.pairs.invariant.2 c.in-Some.ensures.steps c.in_default-next.ensures.steps }

pub returns-in_default-pair : goal.returns-in_default-pair
returns-in_default-pair c =
    record { made = coming_no_pair _ _ _ {u = c.next-in-Some.new.self} _ c.pairs.invariant.2 c.in-Some.ensures.steps c.in-Some-next.ensures.steps (c.in_default-pair.ensures).value }

pub pairs-preserved : goal.pairs-preserved
pairs-preserved c =
    (search rules, search rules, coming_pair _ _ _ _ _ _ c.pairs.invariant.2 c.in-Some.ensures.steps c.in-Some-next.ensures.steps c.in-Some-pair.ensures.value c.in_ok-push.ensures.items)

pub returns : goal.returns
returns c = record { made = coming_end _ _ _ _ c.pairs.invariant.2 c.in_default.ensures.steps }
