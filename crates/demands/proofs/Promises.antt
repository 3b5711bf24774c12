-- All promises of plan and report are kept.
-- Assumes nothing.
use Rattle.writer.proofs.Outcome.{write_tells}
use Rattle.reader.proofs.Stored.{read_tells}
use Rattle.demands.specs.Promises.{Promises}
use Rattle.demands.proofs.Demands.{demand_1, demand_2, one_meaning}
use Rattle.demands.proofs.Runs.{demand_3}
use Rattle.demands.proofs.Sheets.{answers_a, answers_b, answers_b13}
use Rattle.demands.proofs.Reports.{answers_b7, answers_b8}
use Rattle.demands.proofs.Useless.{refuses_all_breaks, same_decisions_break, all_keep_breaks}
use Rattle.demands.proofs.Useless.{does_nothing_breaks, decisions_stay_break, stays_blank_breaks}
use Rattle.demands.proofs.Useless.{repeats_plan_breaks, writes_early_breaks}

pub promises : Promises
promises =
    record {
      first_demand = demand_1;
      second_demand = demand_2;
      one_meaning = one_meaning;
      third_demand = demand_3;
      read_tells = λ s before after a. read_tells;
      write_tells = λ G before after a. write_tells;
      plan_a = answers_a;
      plan_b4 = answers_b;
      plan_b6 = answers_b13;
      report_b7 = answers_b7;
      report_b8 = answers_b8;
      refuses_all = refuses_all_breaks;
      same_decisions = same_decisions_break;
      all_keep = all_keep_breaks;
      does_nothing = does_nothing_breaks;
      decisions_stay = decisions_stay_break;
      stays_blank = stays_blank_breaks;
      repeats_plan = repeats_plan_breaks;
      writes_early = writes_early_breaks;
    }
