use Rattle.text_base.specs.Tokens.{token_view}
use Rattle.lookup_table.proofs.KeySteps.{bound_none, bound_two, bound_one}
use Rattle.lookup_table.proofs.key.read_bound.Goals as goal

pub returns-in_default : goal.returns-in_default
returns-in_default c = bound_none c.args.text.now c.in_default.ensures.tokens

pub returns-in-Some-next_token : goal.returns-in-Some-next_token
returns-in-Some-next_token c = bound_two c.args.text.now (token_view c.in-Some.word) _ _ _ c.in-Some.ensures.tokens c.in-Some-next_token.ensures.tokens

pub returns-then-not-is_decimal : goal.returns-then-not-is_decimal
returns-then-not-is_decimal c = bound_one c.args.text.now (token_view c.in-Some.word) _ _ c.in-Some.ensures.tokens c.in_default-next_token.ensures.tokens c.if-not-is_decimal.ensures.reading

pub returns : goal.returns
returns c = bound_one c.args.text.now (token_view c.in-Some.word) _ _ c.in-Some.ensures.tokens c.in_default-next_token.ensures.tokens c.if-not-is_decimal.ensures.reading
