-- Settings that fail a test are not legal; those that pass all keep every range and rule.
use Rattle.std.specs.Prelude.{Ok}
use Rattle.std.proofs.Common.{◌≡◌, true, sym, ap, ◌∙◌}
use Rattle.settings.specs.Legal.{in_ranges, Ranges}
use Rattle.settings.specs.theory.Legal.{ranges_of, in_ranges_if, fits_if, below_prime_if, laid_if_lem, refused_if}
use Rattle.settings.proofs.settings.Settings.layout.Goals as goal
use Rattle.settings.proofs.settings.Settings.layout.Goals.{Else-not-in_ranges}

-- what the first test tells
in-ranges : (c : Else-not-in_ranges) → in_ranges c.args.self ≡ true
in-ranges c = sym c.in_ranges.ensures ∙ c.if-not-in_ranges.false

ranges : (c : Else-not-in_ranges) → Ranges c.args.self
ranges c = ranges_of _ (in-ranges c)

pub returns-then-not-in_ranges : goal.returns-then-not-in_ranges
returns-then-not-in_ranges c =
    refused_if c.args.self (λ l. c.in_ranges.ensures ∙ in_ranges_if _ l.ranges) c.if-not-in_ranges.true

pub below_prime-requires : goal.below_prime-requires
below_prime-requires c = (ranges (goal.at.below_prime-requires c).Else-not-in_ranges).bii_high

pub returns-then-not-below_prime : goal.returns-then-not-below_prime
returns-then-not-below_prime c =
    refused_if c.args.self (λ l. c.below_prime.ensures ∙ below_prime_if _ l) c.if-not-below_prime.true

pub of-g-requires : goal.of-g-requires
of-g-requires c = ranges (goal.at.of-g-requires c).Else-not-in_ranges

pub keeps_rules-requires : goal.keeps_rules-requires
keeps_rules-requires c = (ranges (goal.at.keeps_rules-requires c).Else-not-in_ranges, c.of-g.ensures)

pub returns-then-not-keeps_rules : goal.returns-then-not-keeps_rules
returns-then-not-keeps_rules c =
    refused_if c.args.self (λ l. c.keeps_rules.ensures ∙ fits_if _ l) c.if-not-keeps_rules.true

pub returns : goal.returns
returns c =
    ap Ok c.of-g.ensures
    ∙ laid_if_lem _ (in-ranges (goal.at.returns c).Else-not-in_ranges) (sym c.below_prime.ensures ∙ c.if-not-below_prime.false)
    (sym c.keeps_rules.ensures ∙ c.if-not-keeps_rules.false)
