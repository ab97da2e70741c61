use Rattle.std.proofs.Common.{◌≡◌, ◌∙◌, ℕ, ◌+◌, ◌<◌, List, ap, fold, get_or, length, sym, take}
use Rattle.std.proofs.lemmas.List.{take_all}
use Rattle.std.proofs.lemmas.List.Folds.{fold-map}
use Rattle.std.proofs.lemmas.List.Sums.{fold_more}
use Rattle.clap.specs.Simple.{App}
use Rattle.clap.specs.Words.{app_of, with_rule}
use Rattle.command_words.specs.declared.options.WordOption.{WordOption}
use Rattle.command_words.specs.Listed.{rule_said}
use Rattle.command_words.proofs.options.with_options.Invariants.{with_said}
use Rattle.command_words.proofs.options.with_options.Goals as goal

-- the next option is added after those so far
added_next : (a before made : App) (options : List WordOption) (i : ℕ) (d : WordOption) → i < length options → before ≡ fold with_said a (take i options)
    → made ≡ with_said before (get_or options i d) → made ≡ fold with_said a (take (i + 1) options)
added_next a before made options i d within so_far added =
    added ∙ ap (λ (b : App). with_said b (get_or options i d)) so_far ∙ sym (fold_more with_said a options i d within)

pub loop-option-preserved : goal.loop-option-preserved
loop-option-preserved c =
    let added = c.in_ok-command.ensures.shape c.argument.ensures.own ∙ ap (with_rule (app_of c.loop-option.command)) c.argument.ensures.rule in
    added_next (app_of c.args.command) (app_of c.loop-option.command) (app_of c.in_ok-command.command) c.args.options.now c.loop-option.option-index _ c.loop-option-test.true c.loop-option.invariant added

pub returns : goal.returns
returns c =
    c.loop-option.invariant ∙ ap (fold with_said (app_of c.args.command)) (take_all c.loop-option.option-index c.args.options.now c.loop-option-test.false)
    ∙ sym (fold-map with_rule rule_said (app_of c.args.command) c.args.options.now)
