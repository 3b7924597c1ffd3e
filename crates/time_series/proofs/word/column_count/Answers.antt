use Rattle.std.proofs.Common.{ℕ, sym, ap, ◌∙◌}
use Rattle.std.specs.declared.option.Option.{Option}
use Rattle.std.specs.Option.{option_and_then}
use Rattle.text_base.specs.Tokens.{token_view}
use Rattle.time_series.specs.Words.{column_number}
use Rattle.time_series.proofs.WordSteps.{count_none, count_two, count_one, columns_enough, columns_few}
use Rattle.time_series.proofs.word.column_count.Goals as goal

pub returns-in_default : goal.returns-in_default
returns-in_default c = count_none c.args.line.now c.in_default.ensures.tokens

pub returns-in-Some-next_token : goal.returns-in-Some-next_token
returns-in-Some-next_token c = count_two c.args.line.now (token_view c.in-Some.word) _ _ _ c.in-Some.ensures.tokens c.in-Some-next_token.ensures.tokens

pub returns-in_default-whole_number : goal.returns-in_default-whole_number
returns-in_default-whole_number c =
    ap (λ (o : Option ℕ). option_and_then column_number o) c.in_default-whole_number.ensures.value
    ∙ count_one c.args.line.now (token_view c.in-Some.word) _ c.in-Some.ensures.tokens c.in_default-next_token.ensures.tokens

pub returns-then-count-lt2 : goal.returns-then-count-lt2
returns-then-count-lt2 c =
    sym (columns_few c.in-Some-whole_number.count c.if-count-lt2.true)
    ∙ ap (λ (o : Option ℕ). option_and_then column_number o) c.in-Some-whole_number.ensures.value
    ∙ count_one c.args.line.now (token_view c.in-Some.word) _ c.in-Some.ensures.tokens c.in_default-next_token.ensures.tokens

pub returns : goal.returns
returns c =
    sym (columns_enough c.in-Some-whole_number.count c.if-count-lt2.false)
    ∙ ap (λ (o : Option ℕ). option_and_then column_number o) c.in-Some-whole_number.ensures.value
    ∙ count_one c.args.line.now (token_view c.in-Some.word) _ c.in-Some.ensures.tokens c.in_default-next_token.ensures.tokens
