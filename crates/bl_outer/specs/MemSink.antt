-- Internal: a sink in memory.
use Rattle.std.specs.Prelude.{ℕ, List, [], Some}
use Rattle.bl_outer.specs.Sink.{SinkState}
use Rattle.bl_outer.specs.FaultPlan.{Plan, new_plan}

-- its bytes, its count of faults, and which calls are to fail
pub record MemSinkState : Type 0 where
  pub bytes : List ℕ
  pub faults : ℕ
  pub plan : Plan

-- what it tells
abbrev pub sink_state : MemSinkState → SinkState
sink_state sink = record { bytes = Some sink.bytes; faults = sink.faults }

-- no bytes, and nothing counted
abbrev pub empty_sink : List ℕ → MemSinkState
empty_sink fails = record { bytes = []; faults = 0; plan = new_plan fails }
