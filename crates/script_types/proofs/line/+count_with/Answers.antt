use Rattle.std.proofs.Common.{◌≡◌, ◌+◌, ◌∷◌, true, false, map, drop, inl, inr, sym, ◌∙◌, ap, arith}
use Rattle.std.proofs.lemmas.List.{drop_more, drop_all}
use Rattle.map_meaning.specs.Trees.{meaning_of, operations_in}
use Rattle.script_types.specs.Statements.{operations_of}
use Rattle.script_types.proofs.TreeCounts.{HasOwn, own, own-call, own-mask, own-told}
use Rattle.script_types.proofs.line.+count_with.Goals as goal

pub returns-in-None : goal.returns-in-None
returns-in-None t c =
    let items = c.as_slice-operand-items.result.now in
    let at = c.loop-operand.operand-index in
    let args = c.in-Call.operands in
    let has : HasOwn args c.args.tree.now = elim c.in-Call.is [ inl w ↦ own-call c.args.tree.now w.0 w.1 args w.2 | inr v ↦ elim v [ inl w ↦ own-told c.args.tree.now w.0 w.1 w.2 w.3 args w.4 | inr w ↦ own-mask c.args.tree.now args w ] ] in
    let left = drop_more items at c.operand-item.result (omega arith) ∙ ap (λ a. a ∷ drop (at + 1) items) (sym c.operand-item.is) in
    let sums : c.loop-operand.count + (operations_of c.operand-item.result + operations_in (map meaning_of (drop (at + 1) items))) ≡ c.args.above + operations_in (map meaning_of args) = ap (λ xs. c.loop-operand.count + operations_in (map meaning_of xs)) (sym left) ∙ c.loop-operand.invariant.1 ∙ ap (λ xs. c.args.above + operations_in (map meaning_of xs)) c.as_slice-operand-items.ensures in
    let over = c.in-None.ensures in
    omega (arith, has, sums, over)

pub returns-then-not-is_call : goal.returns-then-not-is_call
returns-then-not-is_call t c =
    let items = c.as_slice-operand-items.result.now in
    let args = c.in-Call.operands in
    let has : HasOwn args c.args.tree.now = elim c.in-Call.is [ inl w ↦ own-call c.args.tree.now w.0 w.1 args w.2 | inr v ↦ elim v [ inl w ↦ own-told c.args.tree.now w.0 w.1 w.2 w.3 args w.4 | inr w ↦ own-mask c.args.tree.now args w ] ] in
    let whole : c.loop-operand.count + 0 ≡ c.args.above + operations_in (map meaning_of args) = ap (λ xs. c.loop-operand.count + operations_in (map meaning_of xs)) (sym (drop_all c.loop-operand.operand-index items (omega arith))) ∙ c.loop-operand.invariant.1 ∙ ap (λ xs. c.args.above + operations_in (map meaning_of xs)) c.as_slice-operand-items.ensures in
    let called : operations_of c.args.tree.now ≡ operations_in (map meaning_of args) + own false = has ∙ ap (λ b. operations_in (map meaning_of args) + own b) (sym c.is_call.ensures ∙ c.if-not-is_call.true) in
    (omega (arith, called, whole), omega arith)

pub returns-then-count-lt-MOST_OPERATIONS : goal.returns-then-count-lt-MOST_OPERATIONS
returns-then-count-lt-MOST_OPERATIONS t c =
    let items = c.as_slice-operand-items.result.now in
    let args = c.in-Call.operands in
    let has : HasOwn args c.args.tree.now = elim c.in-Call.is [ inl w ↦ own-call c.args.tree.now w.0 w.1 args w.2 | inr v ↦ elim v [ inl w ↦ own-told c.args.tree.now w.0 w.1 w.2 w.3 args w.4 | inr w ↦ own-mask c.args.tree.now args w ] ] in
    let whole : c.loop-operand.count + 0 ≡ c.args.above + operations_in (map meaning_of args) = ap (λ xs. c.loop-operand.count + operations_in (map meaning_of xs)) (sym (drop_all c.loop-operand.operand-index items (omega arith))) ∙ c.loop-operand.invariant.1 ∙ ap (λ xs. c.args.above + operations_in (map meaning_of xs)) c.as_slice-operand-items.ensures in
    let called : operations_of c.args.tree.now ≡ operations_in (map meaning_of args) + own true = has ∙ ap (λ b. operations_in (map meaning_of args) + own b) (sym c.is_call.ensures ∙ c.if-not-is_call.false) in
    (omega (arith, called, whole), omega arith)

pub returns-else-count-lt-MOST_OPERATIONS : goal.returns-else-count-lt-MOST_OPERATIONS
returns-else-count-lt-MOST_OPERATIONS t c =
    let items = c.as_slice-operand-items.result.now in
    let args = c.in-Call.operands in
    let has : HasOwn args c.args.tree.now = elim c.in-Call.is [ inl w ↦ own-call c.args.tree.now w.0 w.1 args w.2 | inr v ↦ elim v [ inl w ↦ own-told c.args.tree.now w.0 w.1 w.2 w.3 args w.4 | inr w ↦ own-mask c.args.tree.now args w ] ] in
    let whole : c.loop-operand.count + 0 ≡ c.args.above + operations_in (map meaning_of args) = ap (λ xs. c.loop-operand.count + operations_in (map meaning_of xs)) (sym (drop_all c.loop-operand.operand-index items (omega arith))) ∙ c.loop-operand.invariant.1 ∙ ap (λ xs. c.args.above + operations_in (map meaning_of xs)) c.as_slice-operand-items.ensures in
    let called : operations_of c.args.tree.now ≡ operations_in (map meaning_of args) + own true = has ∙ ap (λ b. operations_in (map meaning_of args) + own b) (sym c.is_call.ensures ∙ c.if-not-is_call.false) in
    omega (arith, called, whole)
