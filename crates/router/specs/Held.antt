-- What the code holds of a job that was read, and its answers.
--     held_of, JobHeld, IsHeld                        a job's layers, needs and counts, or its refusal
--     sizing_answer, replay_answer, routing_answer    the results that C gets
--     CountsHeld                                      the counts of the plan, where the job was read
--     replay_leaves, report_leaves, routing_leaves    an outcome, from a result and the slices at exit
use Rattle.std.specs.Prelude.{ℕ, ◌+◌, ◌*◌, ◌≡◌, List, length, Result, Ok, Err}
use Rattle.job.specs.Grid.{vertices}
use Rattle.job.specs.Job.{Job}
use Rattle.job.specs.Good.{GoodJob, all_pins}
use Rattle.job.specs.Reading.{refused, good, nets_at, read_job}
use Rattle.job.specs.Refusals.{number_of}
use Rattle.job.specs.declared.refusal.Refused.{Refused}
use Rattle.job.specs.Heads.{job_head}
use Rattle.job.specs.Structs.{grid_of, head_struct, layers_of}
use Rattle.job.specs.declared.groups.Head.{Head as HeadStruct}
use Rattle.job.specs.declared.groups.Layer.{Layer as LayerStruct}
use Rattle.reader.specs.Structs.{largest_in}
use Rattle.occupants.specs.Occupants.{Occupants}
use Rattle.rules.specs.Prices.{tech_of}
use Rattle.rules.specs.Structs.{tech_by, TechFits}
use Rattle.plan.specs.Reading.{read_plan}
use Rattle.rules.specs.declared.totals.Totals.{Totals as TotalsStruct}
use Rattle.walker.specs.Structs.{totals_of}
use Rattle.replay.specs.Structs.{CountedPlan}
use Rattle.router.specs.Room.{work_need, read_with_room}
use Rattle.router.specs.Replay.{ReplayOutcome, refused_replay}
use Rattle.router.specs.Report.{ReportOutcome}
use Rattle.router.specs.Routing.{RoutingOutcome, refused_routing, total_result}
use Rattle.router.specs.declared.held.Held.{Held}
use Rattle.router.specs.declared.replay_call.ReplayResult.{ReplayResult}
use Rattle.router.specs.declared.routing_call.RoutingResult.{RoutingResult}
use Rattle.router.specs.declared.routing_call.Planned.{Planned}
use Rattle.router.specs.declared.sizing.SizingResult.{SizingResult}

-- a good job has this head and these layer lines
pub record HeadHolds (head : HeadStruct) (layers : List LayerStruct) : Type 0 where
  pub job : Job
  pub rules : GoodJob job
  pub heads : head ≡ head_struct (job_head job)
  pub lines : layers ≡ layers_of job.lines

unfoldable pub held_of : HeadStruct → List LayerStruct → Held
held_of head layers =
    record {
      tech = record { grid = head.grid; layers = layers; largest = largest_in layers; guide = head.guide; short = head.short };
      vertices = vertices (grid_of head.grid);
      work = vertices (grid_of head.grid) * 4 * (largest_in layers + 1);
      nets = head.nets;
      from = 80 + 40 * head.grid.layers + 27 * head.obstacles;
    }

-- the bytes hold a good job, these are its occupants, and the code holds its layers, its needs, and where its
-- nets stand
pub record JobHeld (bytes : List ℕ) (occupants : List ℕ) (held : Held) : Type 0 where
  pub job : Job
  pub read : read_job bytes ≡ good job
  pub occupied : Occupants job.grid job.obstacles (all_pins job.nets) occupants
  pub layers : tech_by held.tech ≡ tech_of job
  pub fits : TechFits held.tech
  pub vertices : held.vertices ≡ vertices job.grid
  pub work : held.work ≡ work_need job
  pub nets : length job.nets ≡ held.nets
  pub from : nets_at (job_head job) ≡ held.from

-- the bytes hold a good job, and this is held of it; or they are refused
abbrev pub IsHeld : (bytes : List ℕ) (occupants : List ℕ) → Result Held Refused → Type 0
IsHeld bytes occupants (Ok held) = JobHeld bytes occupants held
IsHeld bytes occupants (Err r) = read_job bytes ≡ refused (number_of r.refusal) r.place

-- the results that C gets: on a refusal its number of the table, and its place
abbrev pub sizing_answer : Result Held Refused → SizingResult
sizing_answer (Ok held) = record { refusal = 0; place = 0; vertices = held.vertices; work = held.work }
sizing_answer (Err r) = record { refusal = number_of r.refusal; place = r.place; vertices = 0; work = 0 }

abbrev pub replay_answer : Result TotalsStruct Refused → ReplayResult
replay_answer (Ok t) = record { refusal = 0; place = 0; cost = t.cost; added = t.added; penalties = t.penalties; joined = t.joined }
replay_answer (Err r) = refused_replay (number_of r.refusal) r.place

abbrev pub routing_answer : Result Planned Refused → RoutingResult
routing_answer (Ok p) = total_result p.bytes (totals_of p.totals)
routing_answer (Err r) = refused_routing (number_of r.refusal) r.place

-- the counts of the plan, where the job was read
abbrev pub CountsHeld : (bytes plan map work before after : List ℕ) → Type 0
CountsHeld bytes plan map work before after = (j : Job) → read_with_room bytes map work ≡ good j → CountedPlan j (read_plan j plan) before after

-- an outcome, from a result and the slices at exit
abbrev pub replay_leaves : ReplayResult → (map work : List ℕ) → ReplayOutcome
replay_leaves r map work = record { result = r; map = map; work = work }

abbrev pub report_leaves : ReplayResult → (map work report : List ℕ) → ReportOutcome
report_leaves r map work report = record { result = r; map = map; work = work; report = report }

abbrev pub routing_leaves : RoutingResult → (map work plan : List ℕ) → RoutingOutcome
routing_leaves r map work plan = record { result = r; map = map; work = work; plan = plan }
