-- In words for a command without subcommands, clap finds at most one kind of fault.
use Rattle.std.proofs.Common.{◌≡◌, ◌==◌, ◌&&◌, ◌||◌, ℕ, zero, suc, Bool, true, false, not, List, [], ◌∷◌, Option, Some, None, length, map, if◌then◌else◌, inl, inr, refl, sym, ap, subst, ◌∙◌}
use Rattle.std.specs.Prelude.{◌+◌, is_some, min, nat_lt, slice_get, drop, encode_utf8}
use Rattle.std.specs.Option.{option_map_or}
use Rattle.std.specs.List.{list_any}
use Rattle.std.specs.Str.{bytes_eq, chars}
use Rattle.clap.specs.Faults.{action_fault, bundle_step_fault, built_fault, check_fault, count_fault, default_fault, defaults_fault, entered_fault, fault_of, flag_word_fault, flags_fault, level_fault, long_fault, option_fault, other_fault, positional_fault, react_fault, set_fault, settle_fault, short_fault, step_fault, stray_fault, turn_fault, use_fault, walk_fault}
use Rattle.clap.specs.Facts.{explicit_source, parser_of_value, unwrap_or_range}
use Rattle.clap.specs.Kinds.{Kinds, IsAmong, check_kinds, or_else, range_kinds, request_kinds, value_kinds, values_kinds}
use Rattle.clap.specs.Lexer.{long_of, short_of}
use Rattle.clap.specs.Matches.{count_text}
use Rattle.clap.specs.Simple.{App, Shape, argument_words, built, entered, label_of, names_of}
use Rattle.clap.specs.Takes.{is_given}
use Rattle.clap.specs.ValueTests.{accepts}
use Rattle.clap.specs.Walk.{Held, Names, Row, Rule, Step, Text, Waiting, Walk, action_of, arg_by_id, arg_by_index, arg_by_long, arg_by_short, attached_value, count_of, finished, has_row, is_empty, is_pending, most_values, nothing_held, reacted, settled, subcommand_met, takes_several, takes_values, values_or_missing, walk, walk_from, walked, with_default, word_met}
use Rattle.clap.specs.Walk as walk_step
use Rattle.clap.specs.declared.builder.action.ArgAction.{ArgAction}
use Rattle.clap.specs.declared.builder.action.ArgAction.TheVariants.{Set, Append, SetTrue, SetFalse, Count, Help, HelpShort, HelpLong, Version}
use Rattle.clap.specs.declared.builder.value_parser.ValueParser.{ValueParser}
use Rattle.clap.specs.declared.error.kind.ErrorKind.{ErrorKind}
use Rattle.why_words.specs.Options.{why_app}

-- ---- lists of kinds

-- all kinds of the list are the same
pub record AtMostOne (kinds : Kinds) : Type 0 where
  pub same : (a b : ErrorKind) → IsAmong a kinds → IsAmong b kinds → a ≡ b

none : AtMostOne []
none = record { same = λ a b x y. absurd x }

one : (kind : ErrorKind) → AtMostOne (kind ∷ [])
one kind = record { same = λ a b x y. both a b x y }
  where
    both : (a b : ErrorKind) → IsAmong a (kind ∷ []) → IsAmong b (kind ∷ []) → a ≡ b
    both a b (inl x) (inl y) = x ∙ sym y
    both a b (inr x) y = absurd x
    both a b (inl x) (inr y) = absurd y

first : (kinds next : Kinds) → AtMostOne kinds → AtMostOne next → AtMostOne (or_else kinds next)
first [] next h k = k
first (kind ∷ kinds) next h k = h

by_test : (test : Bool) (kinds others : Kinds) → AtMostOne kinds → AtMostOne others → AtMostOne (if test then kinds else others)
by_test true kinds others h k = h
by_test false kinds others h k = k

if_there : {X : Type 0} (o : Option X) (f : X → Kinds) → ((x : X) → AtMostOne (f x)) → AtMostOne (option_map_or f o [])
if_there None f h = none
if_there (Some x) f h = h x

-- ---- one use of an argument

of_value : (ignore_case : Bool) (parser : ValueParser) (text : Text) → AtMostOne (value_kinds ignore_case parser text)
of_value ignore_case parser text = by_test (accepts ignore_case parser text) _ _ none (one _)

of_values : (ignore_case : Bool) (parser : ValueParser) (texts : List Text) → AtMostOne (values_kinds ignore_case parser texts)
of_values ignore_case parser [] = none
of_values ignore_case parser (v ∷ vs) = first _ _ (of_value ignore_case parser v) (of_values ignore_case parser vs)

of_range : (least most n : ℕ) → AtMostOne (range_kinds least most n)
of_range least most n =
    by_test (nat_lt 0 least && n == 0) _ _ (one _) (by_test (least == most) _ _ (by_test (least == n) _ _ none (one _)) (by_test (nat_lt n least) _ _ (one _) (by_test (nat_lt most n) _ _ (one _) none)))

of_request : (action : ArgAction) → AtMostOne (request_kinds action)
of_request Help = one _
of_request HelpShort = one _
of_request HelpLong = one _
of_request Version = one _
of_request Set = none
of_request Append = none
of_request SetTrue = none
of_request SetFalse = none
of_request Count = none

of_count : (a : Rule) (values : List Text) (rows : List Row) → AtMostOne (count_fault a values rows)
of_count a [] rows = of_value a.ignore_case (parser_of_value a.parser) (count_text (min (count_of a.id rows + 1) 255))
of_count a (v ∷ vs) rows = of_values a.ignore_case (parser_of_value a.parser) (v ∷ vs)

of_set : (again : Bool) (a : Rule) (values : List Text) (rows : List Row) → AtMostOne (set_fault again a values rows)
of_set again a values rows = first _ _ (by_test (has_row a.id rows && not again) _ _ (one _) none) (of_values _ _ values)

of_action : (action : ArgAction) (again : Bool) (a : Rule) (values : List Text) (rows : List Row) → AtMostOne (action_fault action again a values rows)
of_action Set again a values rows = of_set again a values rows
of_action SetTrue again a values rows = of_set again a values rows
of_action SetFalse again a values rows = of_set again a values rows
of_action Append again a values rows = of_values _ _ values
of_action Count again a values rows = of_count a values rows
of_action Help again a values rows = one _
of_action HelpShort again a values rows = one _
of_action HelpLong again a values rows = one _
of_action Version again a values rows = one _

of_use : (again : Bool) (a : Rule) (values : List Text) (rows : List Row) → AtMostOne (use_fault again a values rows)
of_use again a values rows =
    first _ _ (of_range (unwrap_or_range a.range).start_inclusive (most_values a) (length values)) (of_action (action_of a) again a (values_or_missing a values) rows)

-- ---- the words

of_settling : (c : List Rule) (again : Bool) (h : Held) → AtMostOne (settle_fault c again h)
of_settling c again h = if_there h.pending _ (λ p. if_there (arg_by_id c p.0) _ (λ a. of_use again a p.1 h.rows))

of_reacting : (c : List Rule) (again : Bool) (a : Rule) (values : List Text) (h : Held) → AtMostOne (react_fault c again a values h)
of_reacting c again a values h = first _ _ (of_settling c again h) (of_use again a values (settled c h).rows)

of_option : (c : List Rule) (again : Bool) (a : Rule) (value : Option Text) (h : Held) → AtMostOne (option_fault c again a value h)
of_option c again a (Some v) h = of_reacting c again a (v ∷ []) h
of_option c again a None h = of_settling c again h

of_long : (c : List Rule) (again : Bool) (found : Option Rule) (value : Option Text) (h : Held) → AtMostOne (long_fault c again found value h)
of_long c again None value h = one _
of_long c again (Some a) value h =
    by_test (takes_values a) _ _ (of_option c again a value h) (by_test (is_some value) _ _ (one _) (of_reacting c again a [] h))

of_short : (c : List Rule) (again : Bool) (found : Option Rule) (rest : Text) (h : Held) (next : Held → Kinds) → ((k : Held) → AtMostOne (next k)) → AtMostOne (short_fault c again found rest h next)
of_short c again None rest h next n = one _
of_short c again (Some a) rest h next n =
    by_test (takes_values a) _ _ (of_option c again a (attached_value rest) h) (first _ _ (of_reacting c again a [] h) (n (reacted c a [] h)))

of_bundle_step : (c : List Rule) (again : Bool) (char : Option ℕ) (flags : Text) (skip : ℕ) (h : Held) (next : Text → ℕ → Held → Kinds)
    → ((rest : Text) (k : ℕ) (held : Held) → AtMostOne (next rest k held)) → AtMostOne (bundle_step_fault c again char flags skip h next)
of_bundle_step c again None flags skip h next n = none
of_bundle_step c again (Some x) flags zero h next n =
    let rest = drop (length (encode_utf8 x)) flags in
    of_short c again (arg_by_short c x) rest h (next rest 0) (n rest 0)
of_bundle_step c again (Some x) flags (suc skip) h next n = n _ skip h

of_flags : (c : List Rule) (again : Bool) (k : ℕ) (flags : Text) (skip : ℕ) (h : Held) → AtMostOne (flags_fault c again k flags skip h)
unfolding flags_fault
of_flags c again zero flags skip h = none
of_flags c again (suc k) flags skip h = of_bundle_step c again (slice_get (chars flags) 0) flags skip h (flags_fault c again k) (of_flags c again k)

of_flag_word : (c : List Rule) (again : Bool) (long : Option (Text × Option Text)) (word : Text) (h : Held) → AtMostOne (flag_word_fault c again long word h)
of_flag_word c again (Some p) word h = of_long c again (arg_by_long c p.0) p.1 h
of_flag_word c again None word h = if_there (short_of word) _ (λ flags. of_flags c again (length flags) flags h.skip (record h { skip = 0 }))

-- no subcommand is met where there is none
of_other : (s : Shape) (waiting : Waiting) (word : Text) (h : Held) → AtMostOne (other_fault s (subcommand_met [] waiting word) word h)
of_other s waiting word h =
    subst (λ (met : Option Text). AtMostOne (other_fault s met word h)) (sym (no_subcommand waiting))
    (by_test (bytes_eq word (45 ∷ 45 ∷ [])) _ _ none (of_flag_word s.rules s.args_override_self (long_of word) word h))
  where
    no_subcommand : (waiting : Waiting) → subcommand_met [] waiting word ≡ None
    no_subcommand walk_step.idle = refl
    no_subcommand (walk_step.option id) = refl
    no_subcommand walk_step.positional = refl

of_tests : (wants_help wants_subcommand wants_argument : Bool) → AtMostOne (check_kinds wants_help wants_subcommand wants_argument)
of_tests true wants_subcommand wants_argument = one _
of_tests false true wants_argument = one _
of_tests false false true = one _
of_tests false false false = none

module _ (s : Shape) (leaf : s.is_leaf ≡ true) where
  of_stray : AtMostOne (stray_fault s)
  of_stray = rw leaf (one _)

  of_positional : (a : Rule) (h : Held) → AtMostOne (positional_fault s.rules s.args_override_self a h)
  of_positional a h = by_test (is_pending a h.pending && takes_several a) _ _ none (of_settling s.rules s.args_override_self h)

  or_stray : (found : Option Rule) (h : Held) → AtMostOne (option_map_or (λ a. positional_fault s.rules s.args_override_self a h) found (stray_fault s))
  or_stray None h = of_stray
  or_stray (Some a) h = of_positional a h

  of_step : (position : ℕ) (h : Held) (step : Step) → AtMostOne (step_fault s position h step)
  of_step position h (walk_step.next waiting) = none
  of_step position h (walk_step.trailing at) = none
  of_step position h (walk_step.subcommand name) = none
  of_step position h walk_step.value = or_stray (arg_by_index s.rules position) h

  of_turn : (w : Walk) (word : Text) → AtMostOne (turn_fault s [] w word)
  of_turn w word =
      let met = word_met s.rules [] w.is_trailing w.waiting w.position word w.held in
      by_test (is_some w.stopped) _ _ none (first _ _ (by_test w.is_trailing _ _ none (of_other s w.waiting word w.held)) (of_step w.position met.0 met.1))

  of_walk : (w : Walk) (words : List Text) → AtMostOne (walk_fault s [] w words)
  unfolding walk_fault
  of_walk w [] = none
  of_walk w (word ∷ rest) = first _ _ (of_turn w word) (of_walk (walked s.rules [] w word) rest)

  -- ---- after the words

  of_default : (rows : List Row) (a : Rule) → AtMostOne (default_fault rows a)
  of_default rows a = by_test (has_row a.id rows || is_empty a.defaults) _ _ none (first _ _ (of_request (action_of a)) (of_values _ _ a.defaults))

  of_defaults : (rows : List Row) (rules : List Rule) → AtMostOne (defaults_fault rows rules)
  unfolding defaults_fault
  of_defaults rows [] = none
  of_defaults rows (a ∷ rest) = first _ _ (of_default rows a) (of_defaults (with_default rows a) rest)

  of_check : (rows : List Row) (has_subcommand : Bool) → AtMostOne (check_fault s rows has_subcommand)
  of_check rows has_subcommand =
      of_tests (not has_subcommand && (s.arg_required_else_help && not (list_any (λ (r : Row). explicit_source r.source) rows))) (not has_subcommand && s.subcommand_required)
      (not (s.subcommand_negates_reqs && has_subcommand) && list_any (λ (a : Rule). a.required && not (is_given a.id rows)) s.rules)

  of_level : (h : Held) (words : List Text) (has_subcommand : Bool) (below : Kinds) → AtMostOne below → AtMostOne (level_fault s [] h words has_subcommand below)
  of_level h words has_subcommand below b =
      let end = (walk s.rules [] h words).held in
      first _ _ (of_walk (walk_from h) words)
      (first _ _ b (first _ _ (of_settling s.rules s.args_override_self end)
      (first _ _ (of_defaults (settled s.rules end).rows s.rules) (of_check (finished s.rules end) has_subcommand))))

-- ---- a command without subcommands

nothing_below : (a : App) (stop : Option (Text × List Text)) → a.subs ≡ [] → AtMostOne (entered_fault a stop)
nothing_below a None subs = none
nothing_below a (Some p) subs = rw subs none

of_built : (a : App) (words : List Text) → a.top.is_leaf ≡ true → a.subs ≡ [] → AtMostOne (built_fault a nothing_held words)
of_built a words leaf subs =
    let stop = (walk a.top.rules (names_of a) nothing_held words).stopped in
    subst (λ (names : Names). AtMostOne (level_fault a.top names nothing_held words (is_some (entered a stop)) (entered_fault a stop))) (sym (ap (map label_of) subs))
    (of_level a.top leaf nothing_held words (is_some (entered a stop)) (entered_fault a stop) (nothing_below a stop subs))

-- `soroban_why` has none

leaf : (built why_app).top.is_leaf ≡ true
unfolding why_app
leaf = refl

no_subs : (built why_app).subs ≡ []
unfolding why_app
no_subs = refl

pub one_fault : (words : List Text) → AtMostOne (fault_of why_app words)
one_fault words = of_built (built why_app) (argument_words why_app words) leaf no_subs
