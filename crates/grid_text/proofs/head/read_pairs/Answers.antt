use Rattle.std.proofs.Common.{◌≡◌, ℕ, true, false, [], ◌∷◌, ◌++◌, length, Some, None, Err, sym, ap, ◌∙◌, arith}
use Rattle.std.specs.declared.option.Option.{Option}
use Rattle.std.specs.Option.{option_map}
use Rattle.grid_text.specs.declared.key.Key.{Key}
use Rattle.grid_text.specs.declared.head.Given as given
use Rattle.grid_text.specs.declared.fault.GridFault.{GridFault}
use Rattle.grid_text.specs.Key.{key_of}
use Rattle.grid_text.specs.Form.{Pair, pairs_of, ends_pairs}
use Rattle.grid_text.specs.inside.Reading.{is_filled, pairs_from}
use Rattle.text_base.specs.Tokens.{tokens_left, token_view}
use Rattle.grid_text.specs.inside.Steps.{given_view, with_value}
use Rattle.grid_text.proofs.Tools.{not_filled}
use Rattle.text_base.proofs.Callers.{tokens_left-all}
use Rattle.grid_text.proofs.Pairs.{ends_at}
use Rattle.grid_text.proofs.Heads.{ends_read}
use Rattle.grid_text.proofs.GivenLaws.{come_filled, with_values, step_read, again_read, alone_read, value_read, nothing_given}
use Rattle.grid_text.proofs.head.read_pairs.Goals as goal

pub loop-word-init : goal.loop-word-init
loop-word-init c = record {
  before = [];
  values = nothing_given;
  same = ap (pairs_from (length c.args.text.now) []) (tokens_left-all c.args.text.now);
  within = omega arith;
}

pub returns-in_default-key_of : goal.returns-in_default-key_of
returns-in_default-key_of c =
    let n : ℕ = length c.args.text.now in
    let i = c.loop-word.invariant in
    let none : key_of c.in-Some.word.bytes.now ≡ None = sym c.key_of.ensures ∙ c.in_default-key_of.is in
    let ended : ends_pairs (tokens_left n c.loop-word.rest.now) ≡ true = ap ends_pairs c.in-Some.ensures.tokens ∙ ends_at (token_view c.in-Some.word) (tokens_left n c.in-Some.behind.now) none in
    record {
      pairs = i.before;
      read = sym i.same ∙ ends_read n i.before (tokens_left n c.loop-word.rest.now) ended;
      values = i.values;
      within = i.within;
    }

pub returns-then-has_come : goal.returns-then-has_come
returns-then-has_come c =
    let n : ℕ = length c.args.text.now in
    let i = c.loop-word.invariant in
    let key : Key = c.in-Some-key_of.key in
    let is : key_of c.in-Some.word.bytes.now ≡ Some key = sym c.key_of.ensures ∙ c.in-Some-key_of.is in
    let again : is_filled (pairs_of key i.before) ≡ true = sym (come_filled i.before (given_view c.loop-word.given) key i.values) ∙ sym c.has_come.ensures ∙ c.if-has_come.true in
    sym i.same
    ∙ ap (pairs_from n i.before) c.in-Some.ensures.tokens
    ∙ again_read n i.before (token_view c.in-Some.word) (tokens_left n c.in-Some.behind.now) key is again
    ∙ ap (λ (f : GridFault). Err f) (sym c.head_fault.ensures)

pub returns-in_default-next_token : goal.returns-in_default-next_token
returns-in_default-next_token c =
    let n : ℕ = length c.args.text.now in
    let i = c.loop-word.invariant in
    let key : Key = c.in-Some-key_of.key in
    let is : key_of c.in-Some.word.bytes.now ≡ Some key = sym c.key_of.ensures ∙ c.in-Some-key_of.is in
    let new : is_filled (pairs_of key i.before) ≡ false = sym (come_filled i.before (given_view c.loop-word.given) key i.values) ∙ sym c.has_come.ensures ∙ c.if-has_come.false in
    sym i.same
    ∙ ap (pairs_from n i.before) (c.in-Some.ensures.tokens ∙ ap (λ ts. token_view c.in-Some.word ∷ ts) c.in_default-next_token.ensures.tokens)
    ∙ alone_read n i.before (token_view c.in-Some.word) key is new
    ∙ ap (λ (f : GridFault). Err f) (sym c.head_fault-in_default-next_token.ensures)

pub returns-in_default-add_value : goal.returns-in_default-add_value
returns-in_default-add_value c =
    let n : ℕ = length c.args.text.now in
    let i = c.loop-word.invariant in
    let key : Key = c.in-Some-key_of.key in
    let is : key_of c.in-Some.word.bytes.now ≡ Some key = sym c.key_of.ensures ∙ c.in-Some-key_of.is in
    let new : is_filled (pairs_of key i.before) ≡ false = sym (come_filled i.before (given_view c.loop-word.given) key i.values) ∙ sym c.has_come.ensures ∙ c.if-has_come.false in
    let bad : with_value key c.in-Some.word.bytes.now c.in-Some-next_token.value.bytes.now (given_view c.loop-word.given) ≡ None = sym c.add_value.ensures ∙ ap (λ (o : Option given.Given). option_map given_view o) c.in_default-add_value.is in
    sym i.same
    ∙ ap (pairs_from n i.before) (c.in-Some.ensures.tokens ∙ ap (λ ts. token_view c.in-Some.word ∷ ts) c.in-Some-next_token.ensures.tokens)
    ∙ value_read n i.before (token_view c.in-Some.word) (token_view c.in-Some-next_token.value) (tokens_left n c.in-Some-next_token.after.now) key (given_view c.loop-word.given) is i.values new bad
    ∙ ap (λ (f : GridFault). Err f) (sym c.head_fault-in_default-add_value.ensures)

pub loop-word-preserved : goal.loop-word-preserved
loop-word-preserved c =
    let n : ℕ = length c.args.text.now in
    let i = c.loop-word.invariant in
    let key : Key = c.in-Some-key_of.key in
    let is : key_of c.in-Some.word.bytes.now ≡ Some key = sym c.key_of.ensures ∙ c.in-Some-key_of.is in
    let new : pairs_of key i.before ≡ [] = not_filled (pairs_of key i.before) (sym (come_filled i.before (given_view c.loop-word.given) key i.values) ∙ sym c.has_come.ensures ∙ c.if-has_come.false) in
    let p : Pair = record { word = token_view c.in-Some.word; value = token_view c.in-Some-next_token.value } in
    let good : with_value key p.word.bytes p.value.bytes (given_view c.loop-word.given) ≡ Some (given_view c.in-Some-add_value.more) = sym c.add_value.ensures ∙ ap (λ (o : Option given.Given). option_map given_view o) c.in-Some-add_value.is in
    record {
      before = i.before ++ p ∷ [];
      values = with_values i.before p key (given_view c.loop-word.given) (given_view c.in-Some-add_value.more) is i.values new good;
      same =
          sym (step_read n i.before p (tokens_left n c.in-Some-next_token.after.now) key (given_view c.loop-word.given) (given_view c.in-Some-add_value.more) is i.values new good)
          ∙ sym (ap (pairs_from n i.before) (c.in-Some.ensures.tokens ∙ ap (λ ts. token_view c.in-Some.word ∷ ts) c.in-Some-next_token.ensures.tokens))
          ∙ i.same;
      within = omega (arith, c.in-Some.ensures.shorter, c.in-Some-next_token.ensures.shorter);
    }

pub returns : goal.returns
returns c =
    let n : ℕ = length c.args.text.now in
    let i = c.loop-word.invariant in
    record {
      pairs = i.before;
      read = sym i.same ∙ ends_read n i.before (tokens_left n c.loop-word.rest.now) (ap ends_pairs c.in_default.ensures.tokens);
      values = i.values;
      within = i.within;
    }
