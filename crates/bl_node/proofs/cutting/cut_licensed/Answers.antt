use Rattle.bl_node.specs.Works.{job_of}
use Rattle.bl_node.proofs.MadeCuts.{tried_better}
use Rattle.bl_node.proofs.cutting.cut_licensed.Goals as goal

pub returns-in_ok-leaf-in-Better-clause-tried : goal.returns-in_ok-leaf-in-Better-clause-tried
returns-in_ok-leaf-in-Better-clause-tried g c =
    tried_better (job_of c.args.task.now) c.cut_off.new.cuts.made c.args.why.now c.in-Better.point c.in-Better.response
    c.as_slice-point.result.now c.in-Better.is c.as_slice-point.ensures c.in_ok-leaf-in-Better.ensures.tried
