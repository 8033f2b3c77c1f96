use Rattle.std.proofs.Common.{◌-◌, suc, length, option_map, to_z-of_z, Ok, Err, sym, ap, ◌∙◌, arith, rules}
use Rattle.asl_model.specs.CallSpelling.{WrittenAs, WrittenInteger, WrittenPath, NoneWritten, cut_call, cut_parentheses, followed_by}
use Rattle.asl_intrinsic.proofs.Calls.{behind_byte, cut_off, last_one, no_argument, not_cut, nothing_follows, one_more, refused_as, call_cut, call_means, call_written, negative_cut, path_cut, word_cut}
use Rattle.asl_intrinsic.proofs.Meanings.{number_meant}
use Rattle.asl_intrinsic.specs.Meaning.{argument_seen, arguments_seen, function_meaning}
use Rattle.asl_intrinsic.specs.View.{arguments_view}
use Rattle.asl_intrinsic.proofs.parsing.+cut_call.Goals as goal

pub cut_arguments-loop-preserved : goal.cut_arguments-loop-preserved
cut_arguments-loop-preserved t c =
    let l = c.loop in
    let cut = c.in_ok-argument.ensures.gives in (
      search rules,
      one_more (λ rest. cut_call c.args.depth rest) c.args.item _ (arguments_seen l.arguments) _ (argument_seen c.in_ok-argument.argument) _ _ l.left.now c.in_ok-argument.behind.now c.in-Some-strip_prefix.further.now cut.0 l.invariant.1 (omega arith) (rw (sym c.without_spaces.ensures.rest) cut.1) (sym c.without_spaces-behind.ensures.rest ∙ behind_byte 44 _ _ c.in-Some-strip_prefix.ensures.cases) cut.2 c.in_ok-arguments.ensures,
    )

pub cut_arguments-returns-in-Some : goal.cut_arguments-returns-in-Some
cut_arguments-returns-in-Some t c =
    let l = c.loop in
    let cut = c.in_ok-argument.ensures.gives in
    let last = last_one (λ rest. cut_call c.args.depth rest) c.args.item _ (arguments_seen l.arguments) _ (argument_seen c.in_ok-argument.argument) _ (length c.args.text.now - suc l.counter) l.left.now c.in_ok-argument.behind.now c.in-Some.rest.now cut.0 l.invariant.1 (omega arith) (rw (sym c.without_spaces.ensures.rest) cut.1) (sym c.without_spaces-behind.ensures.rest ∙ behind_byte 41 _ _ c.in-Some.ensures.cases) cut.2 c.in_ok-arguments.ensures in
    cut_off _ _ _ _ _ last.0 last.1 last.2 (search rules)

pub cut_arguments-returns-in_err-argument : goal.cut_arguments-returns-in_err-argument
cut_arguments-returns-in_err-argument t c =
    let l = c.loop in
    refused_as _ _ _ _ c.in_err-argument.field-0.0 (search rules) (λ malformed. no_argument (λ rest. cut_call c.args.depth rest) c.args.item _ (arguments_seen l.arguments) _ l.left.now l.invariant.1 (rw (sym c.without_spaces.ensures.rest) (c.cut_argument.ensures.fails (c.in_err-argument.was ∙ ap Err malformed))))

pub cut_arguments-returns-in_default-strip_prefix : goal.cut_arguments-returns-in_default-strip_prefix
cut_arguments-returns-in_default-strip_prefix t c =
    let l = c.loop in
    let cut = c.in_ok-argument.ensures.gives in
    not_cut _ _ _ (nothing_follows (λ rest. cut_call c.args.depth rest) c.args.item _ (arguments_seen l.arguments) _ (length c.args.text.now - suc l.counter) l.left.now c.in_ok-argument.behind.now cut.0 l.invariant.1 (omega arith) (rw (sym c.without_spaces.ensures.rest) cut.1) (λ rest is. c.in_default.ensures.cases rest (c.without_spaces-behind.ensures.rest ∙ is)) (λ rest is. c.in_default-strip_prefix.ensures.cases rest (c.without_spaces-behind.ensures.rest ∙ is)))

pub cut_argument-returns-then-starts_with : goal.cut_argument-returns-then-starts_with
cut_argument-returns-then-starts_with t c =
    cut_off _ _ _ _ _ (WrittenPath c.cut_path.result.0.now) (path_cut (λ rest. cut_call c.args.depth rest) c.args.text.now _ _ _ c.if-starts_with.ensures.cases.1.1 c.cut_path.ensures.path c.cut_path.ensures.rest) (sym c.in_ok-path_meaning.ensures) c.cut_path.ensures.utf8

pub cut_argument-returns-in-Some-cut_negative : goal.cut_argument-returns-in-Some-cut_negative
cut_argument-returns-in-Some-cut_negative t c =
    let r = c.in-Some-cut_negative in
    cut_off _ _ _ _ _ (WrittenInteger r.number) (negative_cut (λ rest. cut_call c.args.depth rest) c.args.text.now c.in-Some-strip_prefix.digits.now (behind_byte 45 _ _ c.in-Some-strip_prefix.ensures.cases) ∙ sym r.ensures.number) (number_meant c.args.item r.number _ (search (rules, to_z-of_z))) r.ensures.utf8

pub cut_call-returns-in_err-arguments : goal.cut_call-returns-in_err-arguments
cut_call-returns-in_err-arguments t c =
    let cut = call_cut c.args.depth (c.args.depth - 1) c.args.text.now c.cut.result.0.now c.cut.result.1.now c.in-Some.inside.now c.without_spaces.result.now (omega arith) c.cut.ensures.part c.cut.ensures.rest (sym c.if-is_empty.ensures) (behind_byte 40 _ _ c.in-Some.ensures.cases) c.without_spaces.ensures.rest in
    refused_as _ _ _ _ c.in_err-arguments.field-0.0 (search rules) (λ malformed. cut ∙ ap (option_map (call_written c.cut.result.0.now)) (c.cut_inside.ensures.fails (c.in_err-arguments.was ∙ ap Err malformed)))

pub cut_call-returns : goal.cut_call-returns
cut_call-returns t c =
    let cut = call_cut c.args.depth (c.args.depth - 1) c.args.text.now c.cut.result.0.now c.cut.result.1.now c.in-Some.inside.now c.without_spaces.result.now (omega arith) c.cut.ensures.part c.cut.ensures.rest (sym c.if-is_empty.ensures) (behind_byte 40 _ _ c.in-Some.ensures.cases) c.without_spaces.ensures.rest in
    let arguments = c.in_ok-arguments.ensures.gives in
    cut_off _ _ _ _ _ (WrittenAs c.cut.result.0.now arguments.0) (cut ∙ ap (option_map (call_written c.cut.result.0.now)) arguments.1) (call_means c.args.item c.cut.result.0.now arguments.0 ∙ ap (function_meaning c.cut.result.0.now) arguments.2 ∙ sym c.call_of.ensures) c.in_ok-arguments.ensures.utf8

pub cut_inside-returns-in-Some : goal.cut_inside-returns-in-Some
cut_inside-returns-in-Some t c =
    let is = behind_byte 41 _ _ c.in-Some.ensures.cases in
    cut_off _ _ _ _ _ NoneWritten (ap (cut_parentheses (λ rest. cut_call c.args.depth rest)) is) (sym (ap (λ arguments. Ok (arguments_view arguments)) c.new.ensures.items)) (search rules)

pub cut_word-returns-in-Some : goal.cut_word-returns-in-Some
cut_word-returns-in-Some t c =
    let cut = word_cut (λ rest. cut_call c.args.depth rest) c.args.text.now c.cut.result.0.now c.cut.result.1.now c.cut.ensures.part c.cut.ensures.rest c.if-starts_with.ensures.cases in
    let word = c.in-Some.ensures in
    cut_off _ _ _ _ _ word.0 (cut ∙ ap (option_map (followed_by c.cut.result.1.now)) word.1) (word.2 c.args.item) c.cut.ensures.utf8

pub cut_word-returns-in-None : goal.cut_word-returns-in-None
cut_word-returns-in-None t c =
    let cut = word_cut (λ rest. cut_call c.args.depth rest) c.args.text.now c.cut.result.0.now c.cut.result.1.now c.cut.ensures.part c.cut.ensures.rest c.if-starts_with.ensures.cases in
    not_cut _ _ _ (cut ∙ ap (option_map (followed_by c.cut.result.1.now)) c.in-None.ensures)
