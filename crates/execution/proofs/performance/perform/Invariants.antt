use Rattle.std.proofs.Common.{◌≤◌, None, take}
use Rattle.execution.specs.Held.{IsReady}
use Rattle.execution.specs.EventRun.{listed}
use Rattle.execution.specs.Shops.{ShopRuns, ShopStaysNoted}
use Rattle.devices.specs.Views.{output_view, source_view}
use Rattle.execution.proofs.performance.perform.Given as goal

abbrev pub invariant-loop-i : goal.invariant-loop-i
invariant-loop-i g l = record {
  ready : IsReady (g.W.JobMaker.plan l.fn.shop.work).jobs l.shop.board l.shop.hands;
  few : l.stale ≤ l.i;
  ran : ShopRuns g.W.JobMaker.plan
      (take l.i (listed l.fn.in_rounds (g.W.JobMaker.plan l.fn.shop.work).jobs.count l.fn.events)) None
      l.fn.shop 0 (source_view g.S.Shelf l.fn.shelf) (output_view g.B.Bench l.fn.bench)
      l.shop l.stale (source_view g.S.Shelf l.shelf) (output_view g.B.Bench l.bench);
  notes : ShopStaysNoted g.W.JobMaker.remains g.W.JobMaker.noted (source_view g.S.Shelf l.fn.shelf) l.fn.shop l.shop;
}
