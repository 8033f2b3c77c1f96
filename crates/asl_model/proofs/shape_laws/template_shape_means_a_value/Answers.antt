use Rattle.asl_model.proofs.ShapeTemplate.{template-gives}
use Rattle.asl_model.proofs.shape_laws.template_shape_means_a_value.Goals as goal

pub returns : goal.returns
returns c = record { value = λ template input item r e v i h m. template-gives template input item r v i e h m }
