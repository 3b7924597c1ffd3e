-- What is shared is the program, and what is known; the span is all of `initial`.
use Rattle.std.proofs.Common.{◌≡◌, ℕ, sym, subst}
use Rattle.map_meaning.specs.declared.known.Known.{Known}
use Rattle.map_meaning.specs.declared.known.Span.TheVariants as span
use Rattle.map_meaning.specs.declared.program.Program.{Program}
use Rattle.map_meaning.specs.Programs.{IsWellFormed}
use Rattle.map_meaning.specs.Spans.{Knows}
use Rattle.worked_models.proofs.plain.run.Goals as goal

-- what is known of a program is known of its like
known_shared : (p q : Program) (l n : ℕ) (k m : Known) → q ≡ p → n ≡ l → m ≡ k → Knows p (span.Initial 0 l) k → Knows q (span.Initial 0 n) m
known_shared p q l n k m like long alike known =
    subst (λ x. Knows q (span.Initial 0 n) x) (sym alike) (subst (λ x. Knows q (span.Initial 0 x) k) (sym long) (subst (λ x. Knows x (span.Initial 0 l) k) (sym like) known))

pub run-requires-clause-program : goal.run-requires-clause-program
run-requires-clause-program c = subst IsWellFormed (sym c.in_ok-program.ensures.ok) c.requires.program

pub run-requires-clause-known : goal.run-requires-clause-known
run-requires-clause-known c = known_shared _ _ _ _ _ _ c.in_ok-program.ensures.ok c.len.ensures c.in_ok-known.ensures.ok c.requires.known
