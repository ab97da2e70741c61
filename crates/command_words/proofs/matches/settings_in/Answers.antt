-- Each setting is there, or the first that isn't leaves none.
use Rattle.std.proofs.Common.{◌∙◌, sym, refl}
use Rattle.command_words.proofs.Getters.{read_on, read_no_more}
use Rattle.command_words.proofs.matches.settings_in.Goals as goal

pub returns-in_err-short_number_in-2 : goal.returns-in_err-short_number_in-2
returns-in_err-short_number_in-2 c =
    (read_on _ _ _ _ (sym c.mode_in.ensures ∙ c.in_ok-mode_in.was)
    (read_on _ _ _ _ (sym c.format_in.ensures ∙ c.in_ok-format_in.was)
    (read_on _ _ _ _ (sym c.short_number_in.ensures ∙ c.in_ok-short_number_in.was)
    (read_no_more _ _ _ (sym c.short_number_in-2.ensures ∙ c.in_err-short_number_in-2.was) c.from_residual-in_err-short_number_in-2.ensures))))

pub returns-in_err-short_number_in-3 : goal.returns-in_err-short_number_in-3
returns-in_err-short_number_in-3 c =
    (read_on _ _ _ _ (sym c.mode_in.ensures ∙ c.in_ok-mode_in.was)
    (read_on _ _ _ _ (sym c.format_in.ensures ∙ c.in_ok-format_in.was)
    (read_on _ _ _ _ (sym c.short_number_in.ensures ∙ c.in_ok-short_number_in.was)
    (read_on _ _ _ _ (sym c.short_number_in-2.ensures ∙ c.in_ok-short_number_in-2.was)
    (read_no_more _ _ _ (sym c.short_number_in-3.ensures ∙ c.in_err-short_number_in-3.was) c.from_residual-in_err-short_number_in-3.ensures)))))

pub returns-in_err-short_number_in-4 : goal.returns-in_err-short_number_in-4
returns-in_err-short_number_in-4 c =
    (read_on _ _ _ _ (sym c.mode_in.ensures ∙ c.in_ok-mode_in.was)
    (read_on _ _ _ _ (sym c.format_in.ensures ∙ c.in_ok-format_in.was)
    (read_on _ _ _ _ (sym c.short_number_in.ensures ∙ c.in_ok-short_number_in.was)
    (read_on _ _ _ _ (sym c.short_number_in-2.ensures ∙ c.in_ok-short_number_in-2.was)
    (read_on _ _ _ _ (sym c.short_number_in-3.ensures ∙ c.in_ok-short_number_in-3.was)
    (read_no_more _ _ _ (sym c.short_number_in-4.ensures ∙ c.in_err-short_number_in-4.was) c.from_residual-in_err-short_number_in-4.ensures))))))

pub returns-in_err-long_number_in : goal.returns-in_err-long_number_in
returns-in_err-long_number_in c =
    (read_on _ _ _ _ (sym c.mode_in.ensures ∙ c.in_ok-mode_in.was)
    (read_on _ _ _ _ (sym c.format_in.ensures ∙ c.in_ok-format_in.was)
    (read_on _ _ _ _ (sym c.short_number_in.ensures ∙ c.in_ok-short_number_in.was)
    (read_on _ _ _ _ (sym c.short_number_in-2.ensures ∙ c.in_ok-short_number_in-2.was)
    (read_on _ _ _ _ (sym c.short_number_in-3.ensures ∙ c.in_ok-short_number_in-3.was)
    (read_on _ _ _ _ (sym c.short_number_in-4.ensures ∙ c.in_ok-short_number_in-4.was)
    (read_no_more _ _ _ (sym c.long_number_in.ensures ∙ c.in_err-long_number_in.was) c.from_residual-in_err-long_number_in.ensures)))))))

pub returns-in_err-short_number_in-5 : goal.returns-in_err-short_number_in-5
returns-in_err-short_number_in-5 c =
    (read_on _ _ _ _ (sym c.mode_in.ensures ∙ c.in_ok-mode_in.was)
    (read_on _ _ _ _ (sym c.format_in.ensures ∙ c.in_ok-format_in.was)
    (read_on _ _ _ _ (sym c.short_number_in.ensures ∙ c.in_ok-short_number_in.was)
    (read_on _ _ _ _ (sym c.short_number_in-2.ensures ∙ c.in_ok-short_number_in-2.was)
    (read_on _ _ _ _ (sym c.short_number_in-3.ensures ∙ c.in_ok-short_number_in-3.was)
    (read_on _ _ _ _ (sym c.short_number_in-4.ensures ∙ c.in_ok-short_number_in-4.was)
    (read_on _ _ _ _ (sym c.long_number_in.ensures ∙ c.in_ok-long_number_in.was)
    (read_no_more _ _ _ (sym c.short_number_in-5.ensures ∙ c.in_err-short_number_in-5.was) c.from_residual-in_err-short_number_in-5.ensures))))))))

pub returns-in_err-long_number_in-2 : goal.returns-in_err-long_number_in-2
returns-in_err-long_number_in-2 c =
    (read_on _ _ _ _ (sym c.mode_in.ensures ∙ c.in_ok-mode_in.was)
    (read_on _ _ _ _ (sym c.format_in.ensures ∙ c.in_ok-format_in.was)
    (read_on _ _ _ _ (sym c.short_number_in.ensures ∙ c.in_ok-short_number_in.was)
    (read_on _ _ _ _ (sym c.short_number_in-2.ensures ∙ c.in_ok-short_number_in-2.was)
    (read_on _ _ _ _ (sym c.short_number_in-3.ensures ∙ c.in_ok-short_number_in-3.was)
    (read_on _ _ _ _ (sym c.short_number_in-4.ensures ∙ c.in_ok-short_number_in-4.was)
    (read_on _ _ _ _ (sym c.long_number_in.ensures ∙ c.in_ok-long_number_in.was)
    (read_on _ _ _ _ (sym c.short_number_in-5.ensures ∙ c.in_ok-short_number_in-5.was)
    (read_no_more _ _ _ (sym c.long_number_in-2.ensures ∙ c.in_err-long_number_in-2.was) c.from_residual-in_err-long_number_in-2.ensures)))))))))

pub returns-in_err-short_number_in-6 : goal.returns-in_err-short_number_in-6
returns-in_err-short_number_in-6 c =
    (read_on _ _ _ _ (sym c.mode_in.ensures ∙ c.in_ok-mode_in.was)
    (read_on _ _ _ _ (sym c.format_in.ensures ∙ c.in_ok-format_in.was)
    (read_on _ _ _ _ (sym c.short_number_in.ensures ∙ c.in_ok-short_number_in.was)
    (read_on _ _ _ _ (sym c.short_number_in-2.ensures ∙ c.in_ok-short_number_in-2.was)
    (read_on _ _ _ _ (sym c.short_number_in-3.ensures ∙ c.in_ok-short_number_in-3.was)
    (read_on _ _ _ _ (sym c.short_number_in-4.ensures ∙ c.in_ok-short_number_in-4.was)
    (read_on _ _ _ _ (sym c.long_number_in.ensures ∙ c.in_ok-long_number_in.was)
    (read_on _ _ _ _ (sym c.short_number_in-5.ensures ∙ c.in_ok-short_number_in-5.was)
    (read_on _ _ _ _ (sym c.long_number_in-2.ensures ∙ c.in_ok-long_number_in-2.was)
    (read_no_more _ _ _ (sym c.short_number_in-6.ensures ∙ c.in_err-short_number_in-6.was) c.from_residual-in_err-short_number_in-6.ensures))))))))))

pub returns-in_err-burst_in : goal.returns-in_err-burst_in
returns-in_err-burst_in c =
    (read_on _ _ _ _ (sym c.mode_in.ensures ∙ c.in_ok-mode_in.was)
    (read_on _ _ _ _ (sym c.format_in.ensures ∙ c.in_ok-format_in.was)
    (read_on _ _ _ _ (sym c.short_number_in.ensures ∙ c.in_ok-short_number_in.was)
    (read_on _ _ _ _ (sym c.short_number_in-2.ensures ∙ c.in_ok-short_number_in-2.was)
    (read_on _ _ _ _ (sym c.short_number_in-3.ensures ∙ c.in_ok-short_number_in-3.was)
    (read_on _ _ _ _ (sym c.short_number_in-4.ensures ∙ c.in_ok-short_number_in-4.was)
    (read_on _ _ _ _ (sym c.long_number_in.ensures ∙ c.in_ok-long_number_in.was)
    (read_on _ _ _ _ (sym c.short_number_in-5.ensures ∙ c.in_ok-short_number_in-5.was)
    (read_on _ _ _ _ (sym c.long_number_in-2.ensures ∙ c.in_ok-long_number_in-2.was)
    (read_on _ _ _ _ (sym c.short_number_in-6.ensures ∙ c.in_ok-short_number_in-6.was)
    (read_no_more _ _ _ (sym c.burst_in.ensures ∙ c.in_err-burst_in.was) c.from_residual-in_err-burst_in.ensures)))))))))))

pub returns : goal.returns
returns c =
    (read_on _ _ _ _ (sym c.mode_in.ensures ∙ c.in_ok-mode_in.was)
    (read_on _ _ _ _ (sym c.format_in.ensures ∙ c.in_ok-format_in.was)
    (read_on _ _ _ _ (sym c.short_number_in.ensures ∙ c.in_ok-short_number_in.was)
    (read_on _ _ _ _ (sym c.short_number_in-2.ensures ∙ c.in_ok-short_number_in-2.was)
    (read_on _ _ _ _ (sym c.short_number_in-3.ensures ∙ c.in_ok-short_number_in-3.was)
    (read_on _ _ _ _ (sym c.short_number_in-4.ensures ∙ c.in_ok-short_number_in-4.was)
    (read_on _ _ _ _ (sym c.long_number_in.ensures ∙ c.in_ok-long_number_in.was)
    (read_on _ _ _ _ (sym c.short_number_in-5.ensures ∙ c.in_ok-short_number_in-5.was)
    (read_on _ _ _ _ (sym c.long_number_in-2.ensures ∙ c.in_ok-long_number_in-2.was)
    (read_on _ _ _ _ (sym c.short_number_in-6.ensures ∙ c.in_ok-short_number_in-6.was)
    (read_on _ _ _ _ (sym c.burst_in.ensures ∙ c.in_ok-burst_in.was)
    refl)))))))))))
